-- A hash of one byte.
use Rattle.std.proofs.Common.{◌≡◌, ℕ, List, [], ◌∷◌, ◌++◌, length, Ok, refl, subst}
use Rattle.std.specs.Prelude.{◌+◌, ◌*◌, ◌/◌, ◌%◌}
use Rattle.evidence_table.specs.declared.byte_hash.ByteDigest.{ByteDigest}
use Rattle.codec_base.specs.Codec.{Reading, ◌>>=◌, IsBytes, IsLawful}
use Rattle.codec_base.specs.Numbers.{slice_at}
use Rattle.codec_base.specs.Laws.{bind_ok, ok_is, slice_exact, slice_again}

-- a byte that took one more byte in
abbrev pub absorbed : ℕ → ℕ → ℕ
absorbed s b = (s * 3 + b + 7) * (s * 3 + b + 7) / 16 % 256

-- from a state on, byte after byte
abbrev pub absorbed_all : ℕ → List ℕ → ℕ
absorbed_all s [] = s
absorbed_all s (b ∷ bs) = absorbed_all (absorbed s b) bs

abbrev pub byte_hash : List ℕ → ℕ
byte_hash m = absorbed_all 0 m

pub absorbed_all-append : (s : ℕ) (xs ys : List ℕ) → absorbed_all s (xs ++ ys) ≡ absorbed_all (absorbed_all s xs) ys
absorbed_all-append s [] ys = refl
absorbed_all-append s (x ∷ xs) ys = absorbed_all-append (absorbed s x) xs ys

-- ---- a digest is spelled as its byte

abbrev pub bytes_of : ByteDigest → List ℕ
bytes_of d = d.bytes

abbrev pub IsDigest : ByteDigest → Type 0
IsDigest d = length d.bytes ≡ 1

abbrev pub digest_at : List ℕ → Reading ByteDigest
digest_at bytes = slice_at 1 bytes >>= λ s. Ok (record { bytes = s.0 }, s.1)

pub digest_exact : (bytes : List ℕ) (d : ByteDigest) (rest : List ℕ) → IsBytes bytes → digest_at bytes ≡ Ok (d, rest) → (bytes ≡ bytes_of d ++ rest) × IsDigest d
digest_exact bytes d rest fits e =
    let made : List ℕ → ByteDigest = λ s. record { bytes = s } in
    let b = bind_ok (slice_at 1 bytes) (λ s. Ok (made s.0, s.1)) (d, rest) e in
    let s = slice_exact 1 bytes b.0.0 b.0.1 b.1 in
    subst (λ (x : ByteDigest × List ℕ). (bytes ≡ bytes_of x.0 ++ x.1) × IsDigest x.0) (ok_is (made b.0.0, b.0.1) (d, rest) b.2) (s.0, s.1)

pub digest_again : (d : ByteDigest) (rest : List ℕ) → IsDigest d → digest_at (bytes_of d ++ rest) ≡ Ok (d, rest)
digest_again d rest h =
    let made : List ℕ → ByteDigest = λ s. record { bytes = s } in
    let s = slice_again d.bytes rest in
    let t = rw h at s in
    rw t refl

pub digest_lawful : IsLawful bytes_of IsDigest digest_at
digest_lawful = record { exact = digest_exact; again = digest_again }

pub digest_width : (d : ByteDigest) → IsDigest d → length (bytes_of d) ≡ 1
digest_width d h = h
