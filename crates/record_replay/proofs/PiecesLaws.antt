-- A line of a piece, as the code goes on: it was cut, and ended or not. Assumes nothing.
use Prim.Native.Nat.{ℕ, ◌+◌, ◌-◌, ◌≤◌, ◌<◌}
use mathlib.Core.Path.{◌≡◌, refl, sym, ap, ◌∙◌}
use mathlib.Core.List.{List, [], ◌∷◌, ◌++◌, append-nil, append_assoc}
use native.Mathlib.Omega.{arith}
use native.Mathlib.Numerals.{add-one}
use lib.ListN.{length, get_or}
use lib.Seq.{slice, length-slice, slice_empty}
use Rattle.record_lines.specs.Lines.{line_feed, CutAt}
use Rattle.record_lines.proofs.PartedLaws.{slice-more, slice-both}
use Rattle.record_call.specs.Table.{line_of}
use Rattle.board_runs.specs.Runs.{Lent}
use Rattle.record_runs.specs.Replay.{Held, passed_on, answer_to, gone_on, printed_by}
use Rattle.record_runs.proofs.RunLaws.{held_same, gone-both, printed-both, printed-none}
use Rattle.record_runs.proofs.StepLaws.{gone-open, printed-open, gone-ended, printed_ended, number-le}
use Rattle.record_replay.specs.Pieces.{Went}

module _ (xs : List ℕ) (f : ℕ) (p : List ℕ) (n : ℕ) (x : Lent) (e : ℕ) (q : List ℕ) (c : CutAt xs f p e q)
    (a : List ℕ) where
  abbrev at_first : Held
  at_first = record { line = p; number = n; lent = x }

  -- the piece ends
  pub went-open : Went xs f at_first a e record { line = q; number = n; lent = x } a
  went-open =
      let bs : List ℕ = slice f e xs in
      record {
        start = c.start;
        end = c.end;
        held = held_same c.line refl refl ∙ sym (gone-open p n x bs c.unended);
        printed = sym (ap (λ (b : List ℕ). a ++ b) (printed-open p n x bs c.unended) ∙ append-nil a);
      }

  -- the line ends
  module _ (lt : e < length xs) (feed : get_or xs e 0 ≡ line_feed) where
    with-end : slice f (e + 1) xs ≡ slice f e xs ++ (line_feed ∷ [])
    with-end =
        ap (λ (k : ℕ). slice f k xs) (add-one e) ∙ slice-more xs f e c.start lt
        ∙ ap (λ (b : ℕ). slice f e xs ++ (b ∷ [])) feed

    pub went-ended : (l : List ℕ) (x' : Lent) (b : List ℕ) → l ≡ [] → x' ≡ passed_on (line_of q) x →
        b ≡ a ++ answer_to (n + 1) (line_of q) x →
        Went xs f at_first a (e + 1) record { line = l; number = n + 1; lent = x' } b
    went-ended l x' b none left said =
        record {
          start = omega (arith, c.start);
          end = omega (arith, lt);
          held = held_same none refl left
              ∙ sym (ap (λ (bs : List ℕ). gone_on bs at_first) with-end
              ∙ gone-ended p n x (slice f e xs) c.unended q c.line);
          printed = said
              ∙ ap (λ (bs : List ℕ). a ++ bs)
              (sym (ap (λ (bs : List ℕ). printed_by bs at_first) with-end
              ∙ printed_ended p n x (slice f e xs) c.unended q c.line));
        }

-- ---- one after the other

-- nothing yet
pub went-none : (xs : List ℕ) (f : ℕ) (h : Held) (a : List ℕ) → f ≤ length xs → gone_on [] h ≡ h →
    Went xs f h a f h a
went-none xs f h a le none =
    record {
      start = omega arith;
      end = le;
      held = sym (ap (λ (bs : List ℕ). gone_on bs h) (slice_empty f xs) ∙ none);
      printed = sym (ap (λ (bs : List ℕ). a ++ printed_by bs h) (slice_empty f xs)
          ∙ ap (λ (bs : List ℕ). a ++ bs) (printed-none h) ∙ append-nil a);
    }

pub went-both : (xs : List ℕ) (f m e : ℕ) (h h' h'' : Held) (a b d : List ℕ) →
    Went xs f h a m h' b → Went xs m h' b e h'' d → Went xs f h a e h'' d
went-both xs f m e h h' h'' a b d one two =
    let bytes = slice-both xs f m e one.start two.start two.end in
    record {
      start = omega (arith, one.start, two.start);
      end = two.end;
      held = two.held ∙ ap (gone_on (slice m e xs)) one.held
          ∙ sym (ap (λ (bs : List ℕ). gone_on bs h) bytes ∙ gone-both (slice f m xs) (slice m e xs) h);
      printed = two.printed
          ∙ ap (λ (bs : List ℕ). bs ++ printed_by (slice m e xs) h') one.printed
          ∙ append_assoc a (printed_by (slice f m xs) h) (printed_by (slice m e xs) h')
          ∙ ap (λ (g : Held). a ++ (printed_by (slice f m xs) h ++ printed_by (slice m e xs) g)) one.held
          ∙ ap (λ (bs : List ℕ). a ++ bs)
          (sym (ap (λ (bs : List ℕ). printed_by bs h) bytes ∙ printed-both (slice f m xs) (slice m e xs) h));
    }

-- no more lines than bytes
pub went-number : (xs : List ℕ) (f e : ℕ) (h h' : Held) (a b : List ℕ) → Went xs f h a e h' b →
    h'.number ≤ h.number + (e - f)
went-number xs f e h h' a b w =
    let same = ap (λ (g : Held). g.number) w.held in
    omega (arith, number-le (slice f e xs) h, same, length-slice f e xs w.end)
