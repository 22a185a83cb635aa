-- Claims 1 to 14, on the methods of one message file, and on the functions beside them: select numbers,
-- deliveries, a file's words in a block. 01, "One message file".
-- What they fix: whatever a contract lets a method give back is what the definition says, and nothing else.
-- So two answers that a contract allows are equal, and a contract that says less breaks its claim. That the
-- code meets its contract is no claim here: the checks of the crates `file`, `file_select` and `file_words`
-- prove it. That the definitions mean what 01 says is in FileFacts, FileState and FileRegisters.
-- `Learnt l a r a` is what a caller learns of a method with the arguments a that answered r.
-- Premises: none but `Learnt`.
-- No axioms.
use Rattle.std.specs.Prelude.{ℕ, ◌≡◌, Bool, List}
use contract.Lifetimes.{Lfts}
use Rattle.std.specs.Borrow.{Bor, MutBor}
use Rattle.file_select.specs.declared.Register.{Register}
use Rattle.file_select.specs.Select.{select_legal, register_of}
use Rattle.file_select.specs.Deliveries.{delivery_legal}
use Rattle.file.specs.declared.File.{File}
use Rattle.file.specs.declared.register.Access.{Access}
use Rattle.file.specs.declared.register.Accessed.{Accessed}
use Rattle.file.specs.declared.top.Claimed.{Claimed}
use Rattle.file.specs.Page.{arrived, page_written, page_read}
use Rattle.file.specs.Top.{top_identity, top_of, claimed, signals}
use Rattle.file.specs.Rules.{file_sound}
use Rattle.file.specs.Register.{accessed}
use Rattle.file_words.specs.Stored.{file_at, put_file}
use Rattle.file.proofs.File.arrive.Reads as arrive
use Rattle.file.proofs.File.page_write.Reads as page-write
use Rattle.file.proofs.File.page_read.Reads as page-read
use Rattle.file.proofs.File.top_identity.Reads as top-identity
use Rattle.file.proofs.File.top.Reads as top
use Rattle.file.proofs.File.claim.Reads as claim
use Rattle.file.proofs.File.signals.Reads as signals-of
use Rattle.file_select.proofs.select_legal.Reads as select-legal
use Rattle.file_select.proofs.register_of.Reads as register-of
use Rattle.file_select.proofs.delivery_legal.Reads as delivery-legal
use Rattle.file.proofs.File.access.Reads as access
use Rattle.file.proofs.File.sound.Reads as sound
use Rattle.file_words.proofs.load.Reads as load
use Rattle.file_words.proofs.store.Reads as store

-- `arrive` gives the file after a message arrived
-- [01 F22]
unfoldable pub Claim-1 : Type 0
Claim-1 = (f r : File) (i : ℕ) → arrive.Learnt tt (f, (i, tt)) r (f, (i, tt)) → r ≡ arrived 255 f i

-- `page_write` gives the file after a word of its page was written
unfoldable pub Claim-2 : Type 0
Claim-2 = (f r : File) (a v : ℕ) → page-write.Learnt tt (f, (a, (v, tt))) r (f, (a, (v, tt)))
    → r ≡ page_written 255 f a v

-- `page_read` answers what a word of the page reads
-- [01 F3]
unfoldable pub Claim-3 : Type 0
Claim-3 = (f : File) (a r : ℕ) → page-read.Learnt tt (f, (a, tt)) r (f, (a, tt)) → r ≡ page_read f a

-- `top_identity` answers the identity of the file's top, or 0
-- [01 F16]
unfoldable pub Claim-4 : Type 0
Claim-4 = (f : File) (r : ℕ) → top-identity.Learnt tt (f, tt) r (f, tt) → r ≡ top_identity 255 f

-- `top` answers the file's top: that identity twice
unfoldable pub Claim-5 : Type 0
Claim-5 = (f : File) (r : ℕ) → top.Learnt tt (f, tt) r (f, tt) → r ≡ top_of 255 f

-- `claim` gives the top as it was, and the file after the claim
-- [01 F20 F22]
unfoldable pub Claim-6 : Type 0
Claim-6 = (f : File) (r : Claimed) → claim.Learnt tt (f, tt) r (f, tt)
    → (r.top ≡ top_of 255 f) × (r.file ≡ claimed 255 f)

-- `signals` answers whether the file signals by itself
unfoldable pub Claim-7 : Type 0
Claim-7 = (f : File) (r : Bool) → signals-of.Learnt tt (f, tt) r (f, tt) → r ≡ signals 255 f

-- `select_legal` answers whether a select number is legal
unfoldable pub Claim-8 : Type 0
Claim-8 = (s : ℕ) (r : Bool) → select-legal.Learnt tt (s, tt) r (s, tt) → r ≡ select_legal s

-- `register_of` answers which register a legal select number names
unfoldable pub Claim-9 : Type 0
Claim-9 = (s : ℕ) (r : Register) → register-of.Learnt tt (s, tt) r (s, tt) → r ≡ register_of 255 s

-- `delivery_legal` answers whether a delivery is legal
unfoldable pub Claim-10 : Type 0
Claim-10 = (g r : Bool) (d : ℕ) → delivery-legal.Learnt tt (g, (d, tt)) r (g, (d, tt)) → r
    ≡ delivery_legal g d

-- `access` gives the answer of an access to a register, and the file after it
-- [01 X2]
unfoldable pub Claim-11 : Type 0
Claim-11 =
    (f : File) (g : Bool) (k : Access) (s v : ℕ) (r : Accessed)
    → access.Learnt tt (f, (g, (k, (s, (v, tt))))) r (f, (g, (k, (s, (v, tt))))) → r ≡ accessed 255 g f k s v

-- `sound` of a file answers whether it keeps its state rules
unfoldable pub Claim-12 : Type 0
Claim-12 = (f : File) (g r : Bool) → sound.Learnt tt (f, (g, tt)) r (f, (g, tt)) → r ≡ file_sound 255 g f

-- `load` gives the file whose words stand at a place of a block
unfoldable pub Claim-13 : Type 0
Claim-13 = (l : Lfts 1) (b : Bor (List ℕ)) (at : ℕ) (r : File) → load.Learnt l (b, (at, tt)) r (b, (at, tt))
    → r ≡ file_at b.now at

-- `store` leaves the block with a file's words at a place
unfoldable pub Claim-14 : Type 0
Claim-14 =
    (l : Lfts 1) (b b' : MutBor (List ℕ)) (at : ℕ) (f : File)
    → store.Learnt l (b, (at, (f, tt))) tt (b', (at, (f, tt))) → b'.now ≡ put_file b.now at f
