use Rattle.std.proofs.Common.{◌≡◌, ℕ, inl, inr, List, None, IsUtf8, refl, sym}
use Rattle.std.specs.Str.{is_utf8}
use Rattle.serde_json.specs.Errors.{IsMemory}
use Rattle.serde_json.specs.Read.{read}
use Rattle.oci_manifest.specs.Reading.{reading}
use Rattle.std.proofs.lemmas.Str.{is_utf8-from_IsUtf8, IsUtf8-from_is_utf8}
use Rattle.std.proofs.lemmas.Bool.{cases_Bool}
use Rattle.oci_manifest.proofs.manifest.read_value.Goals as goal

pub returns-in-Ok : goal.returns-in-Ok
returns-in-Ok c =
    let text = is_utf8-from_IsUtf8 c.args.bytes.now c.in-Ok.ensures.ok.0 in
    rw (text, c.in-Ok.ensures.ok.1) refl

-- a text with no reading, or no text
unread : (bytes : List ℕ) → (IsUtf8 bytes → read bytes ≡ None) → reading bytes ≡ None
unread bytes h =
    elim (cases_Bool (is_utf8 bytes)) [
      | inl text ↦ let none : read bytes ≡ None = h (IsUtf8-from_is_utf8 bytes text) in rw (text, none) refl
      | inr garbled ↦ rw garbled refl
    ]

pub returns-else-is_memory : goal.returns-else-is_memory
returns-else-is_memory c =
    let other : IsMemory c.in-Err.error → ⊥ = λ m. let no = c.if-is_memory.false in cc (c.is_memory.ensures.1 m) in
    sym (unread c.args.bytes.now (c.in-Err.ensures.err other))
