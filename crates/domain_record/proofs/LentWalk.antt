-- The code of a function over a lent record meets its contract: a walk of the code by hand, because the
-- borrow checker covers no reference to a struct. The borrow is opened and the record copied out; the method
-- makes the new record, and all that is known of it is the method's contract; the new record is stored, and
-- the borrow closed at it. `lent-meets` takes any method, and any contract that holds if the record left is
-- the one that the method answers (`Shown`); a function's own proof has to show that and no more. `walk` is
-- longer than the budget: a cut in it would have to write out all that is had at that place. Assumes nothing.
use Prim.Native.Nat.{ℕ, ◌<◌, ◌^◌}
use mathlib.Core.Path.{◌≡◌, refl}
use mathlib.Core.List.{[], ◌∷◌, List}
use seplogic.Ra.Ura.{Ura}
use base.Fraction.{full_share}
use mir.Syntax.{Callee, named, w32}
use mir.Val.{Val, vunit, vint, vptr}
use base.Logic.{SProp, ent, sep, emp, via, fst∗, id⊢, emp∗, comm∗, mono_l}
use base.Fml.{Fml, GName, Lft, Share, ftrue, flft, fobs, fbor}
use prog.Model.{Model}
use prog.Routine.{Routine, Env}
use prog.Wp.{Calls, Loops, WpFn, Tables, Closed}
use types.Logic.{Logic, sem}
use contract.Lifetimes.{Lfts}
use contract.Monad.{fact}
use contract.Running.{Running, tables, tables_of}
use types.Kit.{‵, raw, ◌⊛◌, some, later, ◌$◌, ◌∵◌, !, qed, by, move, keep, drop, use1, use2, split}
use types.Kit.{join, pick, fsplit, fsplit3, fjoin, fjoin3, feq_i, suffices, frame, await, done}
use types.Run.{look, look_raw, init, store_raw, forget, stop, hop, from, load, unit_lit, of_opd, and_then}
use types.Run.{no_more, assigns, land, returns, enter, alloc1, alloc0, params1, pass1, pass0, free1, free0}
use types.SemTy.{Body}
use sound.WpLaws.{FmC, fm_of, WpFn-mono}
use denote.RattleType.{owns}
use denote.Laws.{Is, Shows, shows, Lawful}
use denote.Memory.{mem}
use denote.Plain.{uint_vals, uint_Tells, uint_Makes}
use denote.Builtin.{u32}
use denote.Ref.{MutBor, MutRef, at_last, mut_vals, mut_Tells}
use denote.Steps.{opens, closes, owned, peeks, heard, nothing}
use denote.Struct.Steps.{spelt}
use denote.Struct.Laws as LL
use denote.Triple.Call.{calls_at}
use denote.Triple.Clauses.{ensured, closing}
use denote.Triple.Entry.{on_entry}
use denote.Triple.Spec.{Meets, triple_of}
use denote.Triple.Statement.{Contract, Triple}
use denote.Triple.Table.{entered, cited}
use denote.Triple.Walked.{walk_of, Walks, ends_at, walked, walk_Meets}
use Rattle.domain_delivery.specs.declared.Delivery.{Delivery}
use Rattle.domain_delivery.specs.contracts.Delivery as T
use Rattle.domain_delivery.proofs.Delivery.TheLaws as T'
use Rattle.domain_delivery.specs.contracts.Delivery.with_idelivery as method
use Rattle.domain_record.specs.contracts.set_idelivery as setter
use Rattle.domain_record.proofs.Lent.{code, stayed, goes, Ensured, leaves, answers, Method, told}

-- what holds for nothing is had beside anything
beside : {M : Type 1} (𝓤 : Ura M) (P E : SProp 𝓤) → ent 𝓤 (emp 𝓤) E → ent 𝓤 P (sep 𝓤 P E)
beside 𝓤 P E h =
    via 𝓤 (sep 𝓤 (emp 𝓤) P) (emp∗ 𝓤 P) (via 𝓤 (sep 𝓤 E P) (mono_l 𝓤 P h) (comm∗ 𝓤 E P))

-- E is ensured where the record left is the one that `new` says
abbrev Shown : {M : Type 1} {𝓤 : Ura M} (𝓛 : Logic 𝓤) → (Delivery → ℕ → Delivery) → Ensured 𝓛
    → Type 1
Shown {𝓤 = 𝓤} 𝓛 new E =
    (κs : Lfts 1) (r : MutBor Delivery) (v : ℕ) (d : Delivery) → d ≡ new r.now v
    → ent 𝓤 (emp 𝓤) (E κs r (at_last r d) v)

module _ {M : Type 1} {𝓤 : Ura M} (𝓛 : Logic 𝓤)
    (new : Delivery → ℕ → Delivery) (E : Ensured 𝓛) (shown : Shown 𝓛 new E) where
  -- what a record owns shows its relation to the machine value, and that value is of the struct's type
  open 𝓛 use {H, A}

  abbrev known : Shows 𝓛 T.the_row (Is T.the_row)
  known = shows 𝓛 T.the_row

  abbrev lawful : Lawful 𝓛 T.the_row
  lawful = LL.lawful T.the_type T'.the_laws 𝓛

  -- a call that is lent the record h at the place (b, o) for the lifetime κ, and given the value n
  module _ (κ : Lft) (q : Share) (b o : ℕ) (γ : GName) (h : Delivery) (n : ℕ) (fits : n < 2 ^ 32) where
    abbrev args : MutBor Delivery × (ℕ × Unit {0})
    args = (record { ref_ptr = (b, o); ghost_name = γ; now = h }, (n, tt))

    abbrev vals : List Val × (List Val × Unit {0})
    vals = (vptr b o ∷ [], (vint w32 n ∷ [], tt))

    abbrev borrow : Fml
    borrow = fbor κ (Body (mem T.the_row) b o γ)

    abbrev Walk : Contract 𝓤
    Walk = walk_of 𝓛 setter.ended stayed (leaves 𝓛 E)

    abbrev bound : Walk.Ghost
    bound = (((κ, tt), (q, tt), tt, args, vals), tt)

    -- the reference is had at the record r, of which the contract holds
    exits : (r : Delivery) → r ≡ new h n
        → ent 𝓤 (sep 𝓤 (A.obs γ ((T.the_row).coded.code r)) (sep 𝓤 (sem 𝓛 borrow) (A.lft κ q)))
        (Walk.post bound vunit)
    exits r e =
        let ending = ends_at 𝓛 setter.ended stayed (leaves 𝓛 E) bound vunit tt (r, (tt, tt)) in
        qed 𝓛 (‵ (fobs γ ((T.the_row).coded.code r)) ∷ ‵ borrow ∷ ‵ (flft κ q) ∷ []) ∵
        suffices ! _ (ending (tt, (tt, tt))) $ suffices ! _ (beside 𝓤 _ _ (shown (κ, tt) args.0 n r e)) $
        -- of the parameters, from the last: the value, and the reference at r
        nothing ! $ owned ! u32 (Is u32) (uint_Makes 𝓛 w32) n _ (refl, fits) $ fjoin ! $
        move ! (1 ∷ 2 ∷ []) $ feq_i ! (List Val) (vptr b o ∷ []) _ refl $ fjoin3 ! $ fjoin ! $
        -- the token, and the unit that is returned
        nothing ! $ move ! (2 ∷ 0 ∷ []) $ join ! $ frame ! $
        feq_i ! (List Val) (vunit ∷ []) _ refl $ move ! (1 ∷ 0 ∷ []) $ done !

    abbrev passed : (Method 𝓛 new).Ghost
    passed = ((tt, tt, tt, (h, (n, tt)), (T'.lowered h ∷ [], (vint w32 n ∷ [], tt))), tt)

    -- what the method is called with
    calls : ent 𝓤
        (sep 𝓤 (sem 𝓛 ((T.the_row).own_val h (T'.lowered h ∷ []))) (sem 𝓛 (u32.own_val n (vint w32 n ∷ []))))
        ((Method 𝓛 new).pre passed)
    calls =
        qed 𝓛 (‵ ((T.the_row).own_val h (T'.lowered h ∷ [])) ∷ ‵ (u32.own_val n (vint w32 n ∷ [])) ∷ []) ∵
        nothing ! $ move ! (2 ∷ 0 ∷ []) $ fjoin ! $ move ! (1 ∷ []) $ fjoin ! $
        nothing ! $ join ! $ nothing ! $ move ! (1 ∷ []) $ join ! $ done !

    module _ (C : Calls 𝓤 H) (Λ : Loops 𝓤 H) (fm : FmC 𝓤 H 𝓛.laws C) (k : Callee)
        (met : Triple 𝓤 (C k) (Method 𝓛 new)) where
      -- a local has two entries, its cell or room and what frees it: of n entries in front, local i is at
      -- n + 2 · (4 − i)
      walk : ent 𝓤 (on_entry 𝓛 setter.signature (κ, tt) (q, tt) args vals)
          (WpFn 𝓤 H C Λ (code k) (vptr b o ∷ vint w32 n ∷ []) (Walk.post bound))
      walk =
          qed 𝓛 ((‵ (flft κ q) ⊛ ‵ ftrue) ∷ ‵ (owns (MutRef (named 0) κ T.the_row ∷ u32 ∷ []) args vals)
          ∷ []) ∵
          enter ! C Λ (code k) (vptr b o ∷ vint w32 n ∷ []) _ $
          alloc1 ! (λ l₀. alloc1 ! (λ l₁. alloc1 ! (λ l₂. alloc1 ! (λ l₃. alloc1 ! (λ l₄. alloc0 ! $
          params1 ! $ pass1 ! (init ! 6 refl (tt, tt)) $
          pass1 ! (init ! 4 refl (tt, record { fits = fits })) $ pass0 ! $
          -- [the locals 4 to 0; the token; what the parameters own]: the reference is opened, and what the
          -- value owns is let go, for its bound makes it again
          move ! (10 ∷ 11 ∷ []) $ split ! $ move ! (2 ∷ []) $ fsplit ! $ fsplit3 ! $ drop ! $
          move ! (2 ∷ 4 ∷ []) $ drop ! $ drop ! $ opens ! tt T.the_row {h = h} b o (λ vs.
          spelt ! T.the_row (Is T.the_row) known (LL.vals T.the_type T'.the_laws)
          (LL.tells T.the_type T'.the_laws) full_share h vs b o $
          move ! (1 ∷ []) $ peeks ! T.the_row (Is T.the_row) known h (T'.lowered h ∷ []) (λ is-h.
          -- [what the record owns; its cell; the open borrow; two of its name; the locals 4 to 0]: the record
          -- is copied out
          assigns ! (of_opd ! (load ! (from ! (hop ! (look ! 11 refl) (stop !))) (look_raw ! 1 refl)))
          (from ! (stop !)) (init ! 5 refl (lawful.typed h _ is-h).0) $
          owned ! u32 (Is u32) (uint_Makes 𝓛 w32) n _ (refl, fits) $
          move ! (1 ∷ 0 ∷ []) $ use2 𝓛 (raw ((Method 𝓛 new).pre passed)) calls $
          -- [what the method asks; the record's cell; and so on as before]: the method answers some r, and
          -- its contract says which
          calls_at ! fm (Method 𝓛 new) met passed (and_then ! (load ! (from ! (stop !)) (look ! 5 refl))
          (and_then ! (load ! (from ! (stop !)) (look ! 9 refl)) (no_more !))) (λ v.
          use1 𝓛 (later (some (λ (r : Delivery). (‵ ftrue ⊛ ‵ ((T.the_row).own_val r (v ∷ [])))
          ⊛ raw (ensured 𝓛 method.ended (answers 𝓛 new) tt (h, (n, tt)) tt r)))) (id⊢ 𝓤 _) $
          await ! tt $ pick ! (λ r. split ! $
          move ! (1 ∷ []) $ use1 𝓛 (raw (fact 𝓤 (r ≡ new h n))) (told 𝓛 new h n r) $
          heard ! (r ≡ new h n) (λ e. split ! $ drop ! $
          peeks ! T.the_row (Is T.the_row) known r (v ∷ []) (λ is-r.
          -- [what the new record owns; the record's cell; and so on as before]: the new record is stored
          land ! (from ! (stop !)) (init ! 7 refl (lawful.typed r _ is-r).0) $
          assigns ! (of_opd ! (load ! (from ! (stop !)) (look ! 7 refl)))
          (from ! (hop ! (look ! 11 refl) (stop !))) (store_raw ! 1 refl (lawful.typed r _ is-r).0) $
          assigns ! (of_opd ! (unit_lit !)) (from ! (stop !)) (init ! 13 refl (tt, tt)) $
          move ! (1 ∷ 0 ∷ 2 ∷ 3 ∷ 4 ∷ []) $ closes ! tt T.the_row r (v ∷ []) b o $
          -- [the observation; the borrow; the token; the locals 4 to 0]
          returns ! (look ! 11 refl) $
          forget ! 3 refl $ forget ! 5 refl $ forget ! 7 refl $ forget ! 9 refl $ forget ! 11 refl $
          move ! (11 ∷ 12 ∷ []) $ free1 ! $ move ! (9 ∷ 10 ∷ []) $ free1 ! $ move ! (7 ∷ 8 ∷ []) $ free1 ! $
          move ! (5 ∷ 6 ∷ []) $ free1 ! $ move ! (3 ∷ 4 ∷ []) $ free1 ! $ free0 ! $
          keep ! (0 ∷ 1 ∷ 2 ∷ []) $ by ! (exits r e))))))))))))

  -- the walk at every call
  walks : (C : Calls 𝓤 H) (Λ : Loops 𝓤 H) → FmC 𝓤 H 𝓛.laws C → (k : Callee)
      → Triple 𝓤 (C k) (Method 𝓛 new)
      → Walks 𝓛 setter.ended stayed (WpFn 𝓤 H C Λ (code k)) (leaves 𝓛 E)
  walks C Λ fm k met =
      walked 𝓛 setter.ended stayed (leaves 𝓛 E) (WpFn 𝓤 H C Λ (code k))
      (λ κs. (mut_vals, (uint_vals w32, tt)))
      (λ κs. (mut_Tells (named 0) κs.0 T.the_row, (uint_Tells w32, tt)))
      (λ κs qs bounds a _ are. let r = a.0 in
      via 𝓤 _ (fst∗ 𝓤 _ (emp 𝓤))
      (walk κs.0 qs.0 r.ref_ptr.0 r.ref_ptr.1 r.ghost_name r.now a.1.0 are.1.0.1 C Λ fm k met))

  meets : (𝓣 : Tables 𝓤 H) (k : Callee) → Triple 𝓤 (𝓣.C k) (Method 𝓛 new)
      → Meets 𝓛 setter.signature (WpFn 𝓤 H 𝓣.C 𝓣.Λ (code k))
      (closing 𝓛 setter.ended (leaves 𝓛 E))
  meets 𝓣 k met =
      walk_Meets 𝓛 setter.ended stayed (goes 𝓛) (leaves 𝓛 E)
      (WpFn 𝓤 H 𝓣.C 𝓣.Λ (code k)) (WpFn-mono 𝓤 H 𝓛.laws 𝓣 (code k))
      (walks 𝓣.C 𝓣.Λ (fm_of 𝓤 H 𝓛.laws 𝓣) k met)

-- the function f that calls the method k, where k is the routine m and m is known to answer `new`
pub lent-meets : {M : Type 1} {𝓤 : Ura M} (𝓛 : Logic 𝓤) (𝓜 : Model 𝓤 𝓛.H)
    (𝓡 : Running 𝓤 𝓛.H 𝓜) (new : Delivery → ℕ → Delivery) (γ : Env) (k f : Callee) (m : Routine) → γ k ≡ m
    → Closed 𝓤 𝓛.H (tables 𝓤 𝓛.H 𝓜 𝓡 γ).C (tables 𝓤 𝓛.H 𝓜 𝓡 γ).Λ f (code k)
    → Meets 𝓛 method.signature (𝓡.run m)
    (closing 𝓛 method.ended (answers 𝓛 new))
    → (E : Ensured 𝓛) → Shown 𝓛 new E
    → Meets 𝓛 setter.signature (𝓡.run (γ f))
    (closing 𝓛 setter.ended (leaves 𝓛 E))
unfolding tables_of
lent-meets {𝓤 = 𝓤} 𝓛 𝓜 𝓡 new γ k f m same closed met E shown =
    let spec = closing 𝓛 setter.ended (leaves 𝓛 E) in
    let 𝓣 = tables 𝓤 𝓛.H 𝓜 𝓡 γ in
    entered 𝓤 𝓛.H (triple_of 𝓛 setter.signature spec) 𝓣.C 𝓣.Λ f (code k) closed
    (meets 𝓛 new E shown (tables_of 𝓤 𝓛.H 𝓜 𝓣) k
    (cited 𝓤 𝓛.H (Method 𝓛 new) 𝓜 𝓡 γ k m same met))
