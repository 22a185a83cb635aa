-- A contract of the form Gives settles the answer and both blocks. No contract cites this file. Assumes
-- nothing.
use Prim.Native.Nat.{ℕ}
use mathlib.Core.Path.{◌≡◌, refl, sym, subst, ◌∙◌}
use mathlib.Core.List.{List, [], ◌∷◌}
use lib.ListN.{get_or}
use Rattle.std.proofs.Common.{Ok, Err}
use Rattle.board_call.specs.declared.Refusal.TheVariants.{StateLength, LogLength, BrokenRule, NoSuch}
use Rattle.board_call.specs.declared.Refusal.TheVariants.{BadAddress, IllegalSelect}
use Rattle.board_call.specs.Answer.{Answer, done_with, refusal_number, answer_value, answer_count}
use Rattle.board_call.specs.declared.Call.{Call}
use Rattle.board_call.specs.Outcome.{Outcome, outcome, Gives}

-- the answer with these numbers
told : ℕ → ℕ → ℕ → Answer
told k v n =
    let cases = done_with v n ∷ Err StateLength ∷ Err LogLength ∷ Err BrokenRule ∷ Err NoSuch
    ∷ Err BadAddress ∷ Err IllegalSelect ∷ [] in
    get_or cases k (done_with v n)

told_back : (r : Answer) → told (refusal_number r) (answer_value r) (answer_count r) ≡ r
unfolding told
told_back (Ok d) = refl
told_back (Err StateLength) = refl
told_back (Err LogLength) = refl
told_back (Err BrokenRule) = refl
told_back (Err NoSuch) = refl
told_back (Err BadAddress) = refl
told_back (Err IllegalSelect) = refl

-- an answer is settled by its refusal, value and count
pub answer-one : (r s : Answer) → refusal_number r ≡ refusal_number s → answer_value r ≡ answer_value s
    → answer_count r ≡ answer_count s
    → r ≡ s
answer-one r s a v n = sym (told_back r) ∙ (λ k. told (a k) (v k) (n k)) ∙ told_back s

-- two results that one outcome allows are equal
pub gives_one : (o : Outcome) (r s : Answer) (l m g h u v : List ℕ) → Gives o r l g u → Gives o s m h v
    → (r ≡ s) × (l ≡ m) × (g ≡ h) × (u ≡ v)
gives_one o r s l m g h u v a b = (
  answer-one r s (a.number ∙ sym b.number) (a.value ∙ sym b.value) (a.count ∙ sym b.count),
  a.block ∙ sym b.block,
  a.log ∙ sym b.log,
  a.saved ∙ sym b.saved,
)

-- what an equal call gives
pub gives_of : {c d : Call} → c ≡ d → (l g u m h v : List ℕ) (r : Answer) → Gives (outcome c l g u) r m h v
    → Gives (outcome d l g u) r m h v
gives_of e l g u m h v r = subst (λ (x : Call). Gives (outcome x l g u) r m h v) e
