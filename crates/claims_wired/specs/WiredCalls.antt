-- Claims 60 to 71, on the functions that the calls are made of: those on one domain, on both domains, and on
-- the files that messages reach. What they fix: whatever the contract of a function lets it answer and leave
-- is what the definition says, and nothing else. That the code meets its contract is not said here: the check
-- of each crate proves it. `Learnt l a r a'` is what its contract lets a caller learn of a function that was
-- given a, answered r and left a'. 01, "The wired controller", "Direct delivery and signals".
-- Premises: none but what is learnt; 66, 67 and the words of 65 have the lengths of the blocks, 144, 290 and
-- 360 words. No axioms.
use Rattle.std.specs.Prelude.{ℕ, ◌≡◌, Bool, List, ◌≢◌, length, take}
use contract.Lifetimes.{Lfts}
use Rattle.std.specs.Borrow.{Bor, MutBor}
use Rattle.domain_region.specs.declared.Word.{Word}
use Rattle.domain_region.specs.declared.Word.TheVariants.{Sourcecfg}
use Rattle.domain_region.specs.Region.{word_at}
use Rattle.domain.specs.Domain.{domain_of}
use Rattle.domain_direct.specs.Direct.{signal_of}
use Rattle.domain_registers.specs.Read.{register_value, claimed_by}
use Rattle.domain_registers.specs.Write.{register_written}
use Rattle.domain_sending.specs.Sending.{sent, logged}
use Rattle.domain_genmsi.specs.Genmsi.{genmsi_sent}
use Rattle.files.specs.Files.{files_of, words_of, all_reached}
use Rattle.wired_state.specs.Wires.{wired_of, wire_set}
use Rattle.wired_sourcecfg.specs.Delegation.{source_written}
use Rattle.wired_registers.specs.Wired.{read_in, claimed_in, part_written}
use Rattle.domain_region.proofs.word_at.Reads as word-at
use Rattle.domain_registers.proofs.read.Reads as read
use Rattle.domain_registers.proofs.write.Reads as write
use Rattle.domain_direct.proofs.signal.Reads as signal
use Rattle.domain_sending.proofs.send.Reads as send
use Rattle.files.proofs.deliver.Reads as deliver
use Rattle.domain_genmsi.proofs.send_genmsi.Reads as send-genmsi
use Rattle.wired_state.proofs.set_wire.Reads as set-wire
use Rattle.wired_registers.proofs.read.Reads as wired-read
use Rattle.wired_registers.proofs.write.Reads as wired-write

-- `word_at` answers which register an address names
unfoldable pub Claim-60 : Type 0
Claim-60 = (a : ℕ) (r : Word) → word-at.Learnt tt (a, tt) r (a, tt) → r ≡ word_at a

-- `read` of a domain answers what a register reads, and leaves the domain after that read
unfoldable pub Claim-61 : Type 0
Claim-61 =
    (l : Lfts 1) (b b' : MutBor (List ℕ)) (ws : List ℕ) (w : Word) (r : ℕ)
    → read.Learnt l (b, (ws, (w, tt))) r (b', (ws, (w, tt)))
    → (r ≡ register_value (domain_of b.now) ws w) × (domain_of b'.now ≡ claimed_by (domain_of b.now) w)

-- a write to a register that concerns its domain alone, before anything is sent; a sourcecfg is left as it is
-- here, for it is written by the function of Claim-69
unfoldable pub Claim-62 : Type 0
Claim-62 =
    (l : Lfts 1) (b b' : MutBor (List ℕ)) (c : Bool) (ws : List ℕ) (w : Word) (v : ℕ)
    → write.Learnt l (b, (c, (ws, (w, (v, tt))))) tt (b', (c, (ws, (w, (v, tt)))))
    → domain_of b'.now ≡ register_written c (domain_of b.now) ws w v

-- `signal` answers the signal of a domain to a hart
unfoldable pub Claim-63 : Type 0
Claim-63 =
    (l : Lfts 1) (b : Bor (List ℕ)) (h : ℕ) (r : Bool)
    → signal.Learnt l (b, (h, tt)) r (b, (h, tt)) → r ≡ signal_of (domain_of b.now) h

-- `send` answers how many messages a domain sent, and leaves the domain and the log after them
unfoldable pub Claim-64 : Type 0
Claim-64 =
    (l : Lfts 2) (b b' g g' : MutBor (List ℕ)) (c : Bool) (r : ℕ)
    → send.Learnt l (b, (c, (g, tt))) r (b', (c, (g', tt)))
    → (domain_of b'.now ≡ (sent c (domain_of b.now)).domain)
    × (g'.now ≡ logged g.now (sent c (domain_of b.now)).messages)
    × (r ≡ length (sent c (domain_of b.now)).messages)

-- `deliver` leaves the files, and so each of their 360 words, as the messages make them
-- [01 B17]
unfoldable pub Claim-65 : Type 0
Claim-65 =
    (l : Lfts 2) (f f' : MutBor (List ℕ)) (g : Bor (List ℕ)) (n : ℕ)
    → deliver.Learnt l (f, (g, (n, tt))) tt (f', (g, (n, tt)))
    → (files_of f'.now ≡ all_reached (files_of f.now) (take n g.now))
    × (length f'.now ≡ 360 → f'.now ≡ words_of (all_reached (files_of f.now) (take n g.now)))

-- a block determines its domain and the domain its block: so these claims determine every word. A corollary
-- of Claim-176
unfoldable pub Claim-66 : Type 0
Claim-66 = (l m : List ℕ) → length l ≡ 144 → length m ≡ 144 → domain_of l ≡ domain_of m → l ≡ m

-- the words of the wired controller determine it, and it determines its words. A corollary of Claim-176
unfoldable pub Claim-67 : Type 0
Claim-67 = (l m : List ℕ) → length l ≡ 290 → length m ≡ 290 → wired_of l ≡ wired_of m → l ≡ m

-- `set_wire` leaves the controller after a wire was set; nothing is sent yet
unfoldable pub Claim-68 : Type 0
Claim-68 =
    (l : Lfts 1) (b b' : MutBor (List ℕ)) (i : ℕ) (level : Bool)
    → set-wire.Learnt l (b, (i, (level, tt))) tt (b', (i, (level, tt)))
    → wired_of b'.now ≡ wire_set (wired_of b.now) i level

-- `write` of the wired registers leaves the controller after a sourcecfg was written; nothing is sent yet
unfoldable pub Claim-69 : Type 0
Claim-69 =
    (l : Lfts 1) (b b' : MutBor (List ℕ)) (c : Bool) (i v : ℕ)
    → wired-write.Learnt l (b, (c, (Sourcecfg i, (v, tt)))) tt (b', (c, (Sourcecfg i, (v, tt))))
    → wired_of b'.now ≡ source_written (wired_of b.now) c i v

-- `read` and `write` of the wired registers leave the controller after a register of a domain was read, or
-- one that is no sourcecfg written; nothing is sent yet
unfoldable pub Claim-70 : Type 0
Claim-70 =
    (l : Lfts 1) (b b' : MutBor (List ℕ)) (c : Bool) (w : Word) (v r : ℕ)
    → (wired-read.Learnt l (b, (c, (w, tt))) r (b', (c, (w, tt)))
    → (r ≡ read_in (wired_of b.now) c w) × (wired_of b'.now ≡ claimed_in (wired_of b.now) c w))
    × (((i : ℕ) → w ≢ Sourcecfg i) → wired-write.Learnt l (b, (c, (w, (v, tt)))) tt (b', (c, (w, (v, tt))))
    → wired_of b'.now ≡ part_written (wired_of b.now) c w v)

-- `send_genmsi` leaves the log with the message of a write to genmsi, and answers how many
unfoldable pub Claim-71 : Type 0
Claim-71 =
    (l : Lfts 2) (b : Bor (List ℕ)) (g g' : MutBor (List ℕ)) (c : Bool) (v r : ℕ)
    → send-genmsi.Learnt l (b, (c, (v, (g, tt)))) r (b, (c, (v, (g', tt))))
    → (g'.now ≡ logged g.now (genmsi_sent c (domain_of b.now) v))
    × (r ≡ length (genmsi_sent c (domain_of b.now) v))
