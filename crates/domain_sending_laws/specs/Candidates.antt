-- The sources that a pass sends, by number, and what a pass leaves of them. 01, "The wired controller"; the
-- standard 4.7, 4.9. Assumes nothing.
--   numbers_from i n        the n numbers from i on, ascending
--   those_with p l          the numbers of l that p holds of, in the order of l
--   candidates d            the sources of 1 to 63 that are active, pending and enabled, ascending
--   message_at c d i        the message that source i would send, in the child (c) or the machine domain
--   spent s                 a source after its turn: if it was to be sent, its pending bit is clear
--   DomainPendingOnly d d'  d' is d in all but its pending bits
--   Names c m               the log word m names a file that the domain sends to: file 0 for the machine
--                           domain, a file of 1 to 4 for the child
use Rattle.std.specs.Prelude.{ℕ, zero, suc, ◌≤◌, ◌<◌, ◌≡◌, Bool, true, false, cond, List, [], ◌∷◌}
use Rattle.sizes.specs.Sizes.{hart_files, source_count}
use Rattle.file_message.specs.Message.{file_in}
use Rattle.source_target.specs.Target.{message_of}
use Rattle.source.specs.declared.Source.{Source}
use Rattle.source.specs.Pending.{with_pending}
use Rattle.domain.specs.Domain.{Domain}
use Rattle.domain.specs.Slot.{source_at}
use Rattle.domain_sending.specs.Sending.{candidate}

unfoldable pub numbers_from : ℕ → ℕ → List ℕ
numbers_from i zero = []
numbers_from i (suc n) = i ∷ numbers_from (suc i) n

unfoldable pub those_with : (ℕ → Bool) → List ℕ → List ℕ
those_with p [] = []
those_with p (i ∷ is) = let rest = those_with p is in cond (p i) (i ∷ rest) rest

unfoldable pub candidates : Domain → List ℕ
candidates d = those_with (λ i. candidate (source_at d i)) (numbers_from 1 source_count)

abbrev pub message_at : Bool → Domain → ℕ → ℕ
message_at c d i = message_of c (source_at d i).target

unfoldable pub spent : Source → Source
spent s = cond (candidate s) (with_pending s false) s

pub record DomainPendingOnly (d d' : Domain) : Type 0 where
  pub source : d'.source ≡ d.source
  pub target : d'.target ≡ d.target
  pub enable : d'.enable ≡ d.enable
  pub delivery : d'.delivery ≡ d.delivery

pub record Names (c : Bool) (m : ℕ) : Type 0 where
  pub exists : file_in m < hart_files
  pub machine : c ≡ false → file_in m ≡ 0
  pub child : c ≡ true → 1 ≤ file_in m
