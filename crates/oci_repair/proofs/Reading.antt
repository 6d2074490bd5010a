-- A file that is read part by part, and does not match its key.
use Rattle.std.proofs.Common.{◌≡◌, ℕ, ◌+◌, ◌-◌, ◌<◌, ◌≤◌, List, [], ◌++◌, length, take, Option, Some, None, refl, sym, ap, subst, ◌∙◌, arith}
use Rattle.std.specs.Prelude.{drop, min}
use Rattle.std.proofs.lemmas.List.{length-append, length-drop, length-take}
use Rattle.std.proofs.lemmas.Option.{same_Some}
use Rattle.oci_digest.specs.Digest.{Verifies}
use Rattle.oci_digest.specs.declared.hasher.Hasher.{Hasher}
use Rattle.oci_layout_store.specs.Blobs.{IsNotOf}
use Rattle.oci_dir.specs.Device.{part_in}
use Rattle.oci_manifest.specs.Descriptor.{Descriptor}
use Rattle.oci_store.specs.Content.{Matches}
use Rattle.oci_store.specs.Parts.{IsPart, IsReading}
use Rattle.oci_store.proofs.Leaves.{own-end}

-- a file that is longer than its key's size
pub too_long : (k : Descriptor) (found : Option (List ℕ)) (left most : ℕ) (part : List ℕ) → left ≤ k.size → left < length part → IsPart found (k.size - left) most part → IsNotOf k found
too_long k found left most part le long part_of bytes is matching =
    let whole : part_of.0 ≡ bytes = same_Some part_of.0 bytes (sym part_of.1 ∙ is) in
    let from : ℕ = k.size - left in
    let size : length part ≡ min most (length (drop from part_of.0)) = ap length part_of.2 ∙ length-take most (drop from part_of.0) in
    let rest : length (drop from part_of.0) ≡ length part_of.0 - from = length-drop from part_of.0 in
    let total : length part_of.0 ≡ k.size = ap length whole ∙ matching.0 in
    absurd (omega (arith, le, long, size, rest, total))

-- a file of which all bytes were read
pub not_at_end : (k : Descriptor) (honest : Type 0) (found : Option (List ℕ)) (hasher : Hasher) (drafted : List ℕ → Type 0) (left most : ℕ) (m part : List ℕ)
    → IsReading hasher drafted k honest found left m → (honest → IsPart found (k.size - left) most part) → length part < most
    → ((left - length part ≡ 0) → Verifies k.digest (m ++ part) → ⊥) → honest → IsNotOf k found
not_at_end k honest found hasher drafted left most m part h part_of short wrong o bytes is matching =
    let place : k.size - left ≡ length m = (let size = h.size in omega (arith, size)) in
    let all : found ≡ Some (m ++ part) = own-end found m part most (h.begins o) (subst (λ (n : ℕ). IsPart found n most part) place (part_of o)) short in
    let whole : m ++ part ≡ bytes = same_Some (m ++ part) bytes (sym all ∙ is) in
    let e : length (m ++ part) ≡ length m + length part = length-append m part in
    let total : length (m ++ part) ≡ k.size = ap length whole ∙ matching.0 in
    let size = h.size in
    wrong (omega (arith, e, total, size)) (subst (λ (xs : List ℕ). Verifies k.digest xs) (sym whole) matching.1)

-- a part that was read
pub part_is : (found : Option (List ℕ)) (from most : ℕ) (part : List ℕ) → Some part ≡ part_in found from most → IsPart found from most part
part_is None from most part h = cc h
part_is (Some bytes) from most part h = (bytes, refl, same_Some part (take most (drop from bytes)) h)
