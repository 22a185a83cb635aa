-- A turn of a digest's loop: the digest so far, gone on with what is left, stays the same. Assumes nothing.
use mathlib.Core.Path.{◌≡◌}
use mathlib.Core.List.{List}
use Prim.Native.Nat.{ℕ, ◌+◌, ◌<◌, ◌≤◌}
use native.Mathlib.Numerals.{add-one}
use lib.ListN.{length, drop, get_or, drop_of_length-le}
use lib.Seq.{drop-cons}
use Rattle.words.specs.Parts.{low, high}
use Rattle.cases.specs.Digest.{digested, digest_of, halves}

pub digest-word : (ws : List ℕ) (i d : ℕ) {x : ℕ} → i < length ws → x ≡ digested d (get_or ws i 0) →
    digest_of x (drop (i + 1) ws) ≡ digest_of d (drop i ws)
unfolding digest_of
digest-word ws i d h e = rw (e, add-one, drop-cons ws i 0)

pub digest-number : (ns : List ℕ) (i d : ℕ) {x y a b : ℕ} → i < length ns → a ≡ low (get_or ns i 0) →
    y ≡ digested d a → b ≡ high (get_or ns i 0) → x ≡ digested y b →
    digest_of x (halves (drop (i + 1) ns)) ≡ digest_of d (halves (drop i ns))
unfolding digest_of halves
digest-number ns i d h ea ey eb ex = rw (ex, ey, ea, eb, add-one, drop-cons ns i 0)

pub digest-end : (ws : List ℕ) (i d : ℕ) → length ws ≤ i → digest_of d (drop i ws) ≡ d
unfolding digest_of
digest-end ws i d h = rw drop_of_length-le

pub digest-numbers-end : (ns : List ℕ) (i d : ℕ) → length ns ≤ i → digest_of d (halves (drop i ns)) ≡ d
unfolding digest_of halves
digest-numbers-end ns i d h = rw drop_of_length-le
