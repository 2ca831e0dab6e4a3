-- A digest of 32 bytes is spelled as they are.
use Rattle.std.proofs.Common.{◌≡◌, ℕ, List, ◌++◌, length, Ok, refl, subst}
use Rattle.tree_shape.specs.declared.sha256.Sha256Digest.{Sha256Digest}
use Rattle.codec_base.specs.Codec.{Reading, ◌>>=◌, IsBytes, IsLawful}
use Rattle.codec_base.specs.Numbers.{slice_at}
use Rattle.codec_base.specs.Laws.{bind_ok, ok_is, slice_exact, slice_again}

abbrev pub bytes_of : Sha256Digest → List ℕ
bytes_of d = d.bytes

abbrev pub IsDigest : Sha256Digest → Type 0
IsDigest d = length d.bytes ≡ 32

abbrev pub digest_at : List ℕ → Reading Sha256Digest
digest_at bytes = slice_at 32 bytes >>= λ s. Ok (record { bytes = s.0 }, s.1)

pub digest_exact : (bytes : List ℕ) (d : Sha256Digest) (rest : List ℕ) → IsBytes bytes → digest_at bytes ≡ Ok (d, rest)
    → (bytes ≡ bytes_of d ++ rest) × IsDigest d
digest_exact bytes d rest fits e =
    let made : List ℕ → Sha256Digest = λ s. record { bytes = s } in
    let b = bind_ok (slice_at 32 bytes) (λ s. Ok (made s.0, s.1)) (d, rest) e in
    let s = slice_exact 32 bytes b.0.0 b.0.1 b.1 in
    subst (λ (x : Sha256Digest × List ℕ). (bytes ≡ bytes_of x.0 ++ x.1) × IsDigest x.0)
    (ok_is (made b.0.0, b.0.1) (d, rest) b.2) (s.0, s.1)

pub digest_again : (d : Sha256Digest) (rest : List ℕ) → IsDigest d → digest_at (bytes_of d ++ rest) ≡ Ok (d, rest)
digest_again d rest h =
    let made : List ℕ → Sha256Digest = λ s. record { bytes = s } in
    let s = slice_again d.bytes rest in
    let t = rw h at s in
    rw t refl

pub digest_lawful : IsLawful bytes_of IsDigest digest_at
digest_lawful = record { exact = digest_exact; again = digest_again }

pub digest_width : (d : Sha256Digest) → IsDigest d → length (bytes_of d) ≡ 32
digest_width d h = h
