-- Claims 187 and 188, from the definitions, line by line. Assumes nothing.
use Prim.Native.Nat.{ℕ, suc, ◌+◌, ◌-◌, ◌*◌, ◌^◌, ◌≤◌, ◌<◌}
use mathlib.Core.Path.{◌≡◌, refl, sym, subst, ◌∙◌}
use mathlib.Core.Bool.{Bool, true, false, not, ◌&&◌, ◌||◌}
use mathlib.Core.Logic.{◌≢◌, ◌⊎◌, inl, inr, ⊎_elim, ◌↔◌}
use native.Mathlib.Omega.{arith}
use lib.Dec.{eqb}
use borrow.Author.Tests.{eq-eqb, ne_eqb, lt-ltb}
use Rattle.words.specs.Sets.{WordsFit}
use Rattle.words.proofs.TestsLaws.{tested, not_same}
use Rattle.words.specs.Parts.{packed}
use Rattle.source_target.specs.Target.{hart_of, guest_of, number_of}
use Rattle.board_move_steps.specs.Names.{names_file, renamed}
use Rattle.board_move_wired_laws.proofs.TargetNames.{names-number, number-names}
use Rattle.files.specs.Files.{file_number}
use Rattle.board_call.specs.declared.Call.{Call}
use Rattle.board_call.specs.Numbers.{is_file}
use Rattle.board_call_laws.proofs.FileCallEffects.{hart-lt, file-lt}
use Rattle.board_move_laws.proofs.MoveEffects.{guest-hart, guest-low, guest-high}
use Rattle.board_runs.specs.Reading.{only_reads}
use Rattle.move_laws.specs.Shift.{Stations, Event, is_neither, has_neither, elsewhere}
use Rattle.move_laws.specs.Shift.Event.{wire, page, access, call}
use Rattle.move_laws.specs.After.{FileCall, call_on, then_here, then_there, LaterKept}
use Rattle.move_cases.specs.Needed.{PagesWithin, LogLong, AnyOld, AnyNew, Besides, on_old}
use Rattle.move_cases.specs.Needed.{station_there}
use Rattle.claims_move.specs.Words.{Claim-187, Claim-188}
use Rattle.claims_move.proofs.MoveCall.{guest-joined}
use Rattle.claims_move.proofs.Premises.{file-same, file-other, or_split, page-asked}

-- ---- calls on other files

or-true : (p : Bool) → not (p || true) ≡ false
or-true true = refl
or-true false = refl

module _ (m : Stations) (h f : ℕ) where
  -- file f of hart h is neither old nor new
  neither-iff : (is_neither m h f ≡ true)
      ↔ ((h ≡ m.old_hart → f ≡ m.old_file → ⊥) × (h ≡ m.new_hart → f ≡ m.new_file → ⊥))
  neither-iff =
      let old = eqb h m.old_hart && eqb f m.old_file in
      let new = eqb h m.new_hart && eqb f m.new_file in (
        (λ e. (
          (λ p q. not_same _ e (rw (file-same h f m.old_hart m.old_file p q))),
          (λ p q. not_same _ e (rw (file-same h f m.new_hart m.new_file p q) (or-true old))),
        )),
        (λ p. rw (
          file-other h f m.old_hart m.old_file p.0,
          file-other h f m.new_hart m.new_file p.1,
        )
            refl),
      )

  -- hart h has neither
  apart-iff : (has_neither m h ≡ true) ↔ ((h ≢ m.old_hart) × (h ≢ m.new_hart))
  apart-iff = (
    (λ e. (
      (λ p. not_same _ e (rw (eq-eqb h m.old_hart p))),
      (λ p. not_same _ e (rw (eq-eqb h m.new_hart p) (or-true (eqb h m.old_hart)))),
    )),
    (λ p. rw (ne_eqb h m.old_hart p.0, ne_eqb h m.new_hart p.1) refl),
  )

-- ---- a target that named old names new, and every other is as it was

module _ (m : Stations) (t t' : ℕ) where
  abbrev ByNames : Type 0
  ByNames =
      (names_file t' m.old_hart m.old_file ≡ true → t ≡ renamed t' m.new_hart m.new_file)
      × (names_file t' m.old_hart m.old_file ≡ false → t ≡ t')

  abbrev ByNumbers : Type 0
  ByNumbers =
      (hart_of t' ≡ m.old_hart → guest_of t' + 1 ≡ m.old_file
      → t ≡ m.new_hart * 2 ^ 18 + (m.new_file - 1) * 2 ^ 12 + number_of t')
      × ((hart_of t' ≡ m.old_hart → guest_of t' + 1 ≡ m.old_file → ⊥) → t ≡ t')

  whole : renamed t' m.new_hart m.new_file
      ≡ m.new_hart * 2 ^ 18 + (m.new_file - 1) * 2 ^ 12 + number_of t'
  unfolding renamed packed
  whole = omega arith

  pub targets-to : ByNames → ByNumbers
  targets-to p = (
    (λ a b. p.0 (number-names t' m.old_hart m.old_file a b) ∙ whole),
    (λ d. tested (names_file t' m.old_hart m.old_file)
        (λ y. let e = names-number t' m.old_hart m.old_file y in absurd (d e.0 e.1)) p.1),
  )

  targets-back : ByNumbers → ByNames
  targets-back p = (
    (λ y. let e = names-number t' m.old_hart m.old_file y in p.0 e.0 e.1 ∙ sym whole),
    (λ n. p.1 (λ a b. not_same _ (number-names t' m.old_hart m.old_file a b) n)),
  )

-- a file that is there, in plain numbers
file-iff : (h f : ℕ) → (is_file h f ≡ true) ↔ ((h < 4) × (f < 5))
unfolding is_file
file-iff h f = ((λ e. (hart-lt h f e, file-lt h f e)), (λ p. simp (lt-ltb h 4 p.0, lt-ltb f 5 p.1)))

three_ways : (p q : Bool) (A : Type 0)
    → ((((p || q) ≡ true) ⊎ A) ↔ ((p ≡ true) ⊎ ((q ≡ true) ⊎ A)))
three_ways p q A =
    let either = or_split p q in (
      ⊎_elim (λ e. ⊎_elim (λ u. inl u) (λ u. inr (inl u)) (either.0 e)) (λ a. inr (inr a)),
      ⊎_elim (λ u. inl (either.1 (inl u))) (⊎_elim (λ u. inl (either.1 (inr u))) (λ a. inr a)),
    )

-- ---- the station's calls where it is not moved

module _ (m : Stations) where
  on-old-new : (e : FileCall) → on_old m (call_on m.new_hart m.new_file e)
      ≡ call_on m.old_hart m.old_file e
  unfolding on_old
  on-old-new (FileCall.page_read a) = rw (file-same m.new_hart m.new_file m.new_hart m.new_file refl
      refl) refl
  on-old-new (FileCall.page_write a v) = rw (file-same m.new_hart m.new_file m.new_hart m.new_file refl
      refl) refl
  on-old-new (FileCall.register k s v) = rw (file-same m.new_hart m.new_file m.new_hart m.new_file
      refl refl) refl
  on-old-new FileCall.top = rw (file-same m.new_hart m.new_file m.new_hart m.new_file refl refl) refl
  on-old-new FileCall.claim = rw (file-same m.new_hart m.new_file m.new_hart m.new_file refl refl)
      refl

  on-old-other : (h f : ℕ) (e : FileCall) → (h ≡ m.new_hart → f ≡ m.new_file → ⊥)
      → on_old m (call_on h f e) ≡ call_on h f e
  unfolding on_old
  on-old-other h f (FileCall.page_read a) d = rw (file-other h f m.new_hart m.new_file d) refl
  on-old-other h f (FileCall.page_write a v) d = rw (file-other h f m.new_hart m.new_file d) refl
  on-old-other h f (FileCall.register k s v) d = rw (file-other h f m.new_hart m.new_file d) refl
  on-old-other h f FileCall.top d = rw (file-other h f m.new_hart m.new_file d) refl
  on-old-other h f FileCall.claim d = rw (file-other h f m.new_hart m.new_file d) refl

any-old : (m : Stations)
    → AnyOld m
    ↔ ((m.old_hart < 4) × (m.old_file < 5) × (m.new_hart < 4) × (2 ≤ m.new_file) × (m.new_file ≤ 4)
    × (m.old_hart ≡ m.new_hart → m.old_file ≡ m.new_file → ⊥))
any-old m =
    let oh = m.old_hart in
    let of = m.old_file in
    let nh = m.new_hart in
    let nf = m.new_file in
    let old = file-iff oh of in (
      (λ g. (
        (old.0 g.old).0,
        (old.0 g.old).1,
        guest-hart nh nf g.new,
        guest-low nh nf g.new,
        omega (arith, guest-high nh nf g.new),
        (λ p q. not_same _ (file-same oh of nh nf p q) g.different),
      )),
      (λ p. record {
        old = old.1 (p.0, p.1);
        new = guest-joined nh nf p.2 p.3 p.4;
        different = file-other oh of nh nf p.5;
      }),
    )

any-new : (m : Stations)
    → AnyNew m
    ↔ ((m.old_hart < 4) × (2 ≤ m.old_file) × (m.old_file ≤ 4) × (m.new_hart < 4) × (m.new_file < 5)
    × (m.old_hart ≡ m.new_hart → m.old_file ≡ m.new_file → ⊥))
any-new m =
    let oh = m.old_hart in
    let of = m.old_file in
    let nh = m.new_hart in
    let nf = m.new_file in
    let new = file-iff nh nf in (
      (λ g. (
        guest-hart oh of g.old,
        guest-low oh of g.old,
        omega (arith, guest-high oh of g.old),
        (new.0 g.new).0,
        (new.0 g.new).1,
        (λ p q. not_same _ (file-same oh of nh nf p q) g.different),
      )),
      (λ p. record {
        old = guest-joined oh of p.0 p.1 p.2;
        new = new.1 (p.3, p.4);
        different = file-other oh of nh nf p.5;
      }),
    )

-- ---- what happens in a shift

event-is : (e : Event)
    → ((i : ℕ) × (level : ℕ) × (e ≡ wire i level))
    ⊎ ((h : ℕ) × (f : ℕ) × (a : ℕ) × (v : ℕ) × (e ≡ page h f a v)) ⊎ (e ≡ access)
    ⊎ ((c : Call) × (e ≡ call c))
event-is (wire i level) = inl (i, level, refl)
event-is (page h f a v) = inr (inl (h, f, a, v, refl))
event-is access = inr (inr (inl refl))
event-is (call c) = inr (inr (inr (c, refl)))

pub claim-187 : Claim-187
unfolding Claim-187 elsewhere then_here then_there LaterKept PagesWithin Besides on_old station_there LogLong
    WordsFit file_number
claim-187 = (
  (λ m b h f. (refl, refl, refl, refl, refl)),
  event-is,
  (λ m a d f h k level n nf nh of oh s v w. (
    neither-iff m h f,
    neither-iff m h f,
    neither-iff m h f,
    neither-iff m h f,
    neither-iff m h f,
    apart-iff m h f,
    refl,
    refl,
    refl,
    refl,
    refl,
    refl,
    refl,
    refl,
    refl,
    refl,
  )),
  (λ m b b'. (
    (λ r. (
      r.station,
      r.others,
      r.wires,
      r.pending,
      r.enable,
      r.machine,
      r.sources,
      r.structures,
      r.genmsi,
      (λ i l h. targets-to m _ _ (r.targets i l h)),
    )),
    (λ p. record {
      station = p.0;
      others = p.1;
      wires = p.2;
      pending = p.3;
      enable = p.4;
      machine = p.5;
      sources = p.6;
      structures = p.7;
      targets = λ i l h. targets-back m _ _ (p.9 i l h);
      genmsi = p.8;
    }),
  )),
  (λ m l s es. (
    (λ p. (p.started, p.guests, p.messages, p.fresh, p.all, p.pages, p.calls)),
    (λ p. record {
      started = p.0;
      guests = p.1;
      messages = p.2;
      fresh = p.3;
      all = p.4;
      pages = p.5;
      calls = p.6;
    }),
  )),
  (λ m es c d y z n j level h f a v. let nh = m.new_hart in
      let nf = m.new_file in
      let oh = m.old_hart in
      let of = m.old_file in
      let next : suc n ≡ n + 1 = omega arith in
      let ways = three_ways (only_reads c) (elsewhere m c) ((c ≡ d) × (1 ≤ n) × (n < 89)) in (
        tt,
        ((λ p. p), (λ p. p)),
        page-asked m h f (y ≤ n) (n < z) (PagesWithin y z m n es),
        (
          subst (λ (k : ℕ). PagesWithin y z m k es) next,
          subst (λ (k : ℕ). PagesWithin y z m k es) (sym next),
        ),
        ((λ p. p), (λ p. p)),
        tt,
        ((λ p. p), (λ p. p)),
        ((λ p. p), (λ p. p)),
        (subst (λ (k : ℕ). Besides d m k es) next, subst (λ (k : ℕ). Besides d m k es) (sym next)),
        ((λ p. (ways.0 p.0, p.1, p.2)), (λ p. (ways.1 p.0, p.1, p.2))),
        refl,
        refl,
        refl,
        refl,
        refl,
      )),
  (λ m e d a v h f level n nf nh of oh w. (
    on-old-new m e,
    on-old-other m h f e,
    refl,
    refl,
    refl,
    refl,
    refl,
    refl,
  )),
  (λ m es c h f a v i level. let oh = m.old_hart in
      let of = m.old_file in
      let neither = neither-iff m h f in (
        refl,
        refl,
        refl,
        refl,
        refl,
        refl,
        refl,
        (λ p q. rw (file-same h f m.new_hart m.new_file p q) refl),
        (λ d. rw (file-other h f m.new_hart m.new_file d) refl),
        refl,
        refl,
        tt,
        ((λ p. p), (λ p. p)),
        (
          (λ p. ((λ a b. not_same _ (file-same h f oh of a b) p.0), p.1)),
          (λ p. (file-other h f oh of p.0, p.1)),
        ),
        ((λ p. p), (λ p. p)),
        ((λ p. (neither.0 p.0, p.1, p.2)), (λ p. (neither.1 p.0, p.1, p.2))),
      )),
  (λ l s. (
    (λ p. (p.block, p.words, p.saved-long, p.saved-fit)),
    (λ p. record { block = p.0; words = p.1; saved-long = p.2; saved-fit = p.3 }),
  )),
  (λ m. (any-old m, any-new m)),
  (λ x. ((λ p. p), (λ p. p))),
)

pub claim-188 : Claim-188
unfolding Claim-188
claim-188 = (
  (λ P. (
    (λ w. (w.m, w.x, w.es, w.meets, w.breaks)),
    (λ w. record { m = w.0; x = w.1; es = w.2; meets = w.3; breaks = w.4 }),
  )),
  (λ d. (
    (λ w. (
      w.m,
      w.x,
      w.es,
      w.started,
      w.log,
      w.guests,
      w.messages,
      w.fresh,
      w.all,
      w.pages,
      w.besides,
      w.breaks,
    )),
    (λ w. record {
      m = w.0;
      x = w.1;
      es = w.2;
      started = w.3;
      log = w.4;
      guests = w.5;
      messages = w.6;
      fresh = w.7;
      all = w.8;
      pages = w.9;
      besides = w.10;
      breaks = w.11;
    }),
  )),
  (
    (λ w. (w.m, w.l, w.s, w.es, w.ms, w.ns, w.premises, w.with, w.without, w.breaks)),
    (λ w. record {
      m = w.0;
      l = w.1;
      s = w.2;
      es = w.3;
      ms = w.4;
      ns = w.5;
      premises = w.6;
      with = w.7;
      without = w.8;
      breaks = w.9;
    }),
  ),
)
