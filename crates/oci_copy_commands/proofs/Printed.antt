-- What a copy prints, from its answer.
use Rattle.std.proofs.Common.{◌≡◌, ◌+◌, ◌++◌, ◌∷◌, [], ℕ, List, length, take, get_or, string_bytes, refl, ap, sym, ◌∙◌}
use Rattle.std.specs.Prelude.{◌≤◌, filter_map, slice_get}
use Rattle.std.specs.List.{flat_map}
use Rattle.std.proofs.lemmas.List.{take_all, take_more}
use Rattle.std.proofs.lemmas.List.Elements.{filter_map-append}
use Rattle.std.proofs.lemmas.List.Folds.{flat_map-map}
use Rattle.std.proofs.lemmas.Option.{slice_get_within, get_or_from_slice_get}
use Rattle.oci_manifest.specs.Descriptor.{Descriptor}
use Rattle.oci_plan.specs.Plan.{keys_before, IsKeyAt, Planned}
use Rattle.oci_program.specs.declared.answer.Tagged.{Tagged}
use Rattle.oci_copy_commands.specs.Printed.{copied_line, copied_lines, tags_of, untagged_line, untagged_lines}

-- the lines of all tags of an answer
pub copied_all : (items : List Tagged) (i : ℕ) → length items ≤ i → flat_map (λ (t : Tagged). copied_line t.descriptor) (take i items) ≡ copied_lines (tags_of items)
copied_all items i all =
    ap (flat_map (λ (t : Tagged). copied_line t.descriptor)) (take_all i items all) ∙ sym (flat_map-map (λ (t : List ℕ × Descriptor). copied_line t.1) (λ (t : Tagged). (string_bytes t.tag, t.descriptor)) items)

-- the lines of all its tags that went
pub untagged_all : (items : List Tagged) (i : ℕ) → length items ≤ i → flat_map (λ (t : Tagged). untagged_line (string_bytes t.tag, t.descriptor)) (take i items) ≡ untagged_lines (tags_of items)
untagged_all items i all = ap (flat_map (λ (t : Tagged). untagged_line (string_bytes t.tag, t.descriptor))) (take_all i items all) ∙ sym (flat_map-map untagged_line (λ (t : Tagged). (string_bytes t.tag, t.descriptor)) items)

-- after the key at a place, there is one key more before the next place
pub one_key_more : (p : Planned) (place : ℕ) (k : Descriptor) → IsKeyAt p place k → keys_before (place + 1) p ≡ keys_before place p ++ k ∷ []
one_key_more p place k found =
    let sequence = p.order.sequence in
    let n = found.0 in
    let at = found.1 in
    let number : get_or sequence place 0 ≡ n = get_or_from_slice_get sequence place n 0 at in
    let numbers : take (place + 1) sequence ≡ take place sequence ++ n ∷ [] = take_more sequence place 0 (slice_get_within sequence place n at) ∙ ap (λ (m : ℕ). take place sequence ++ m ∷ []) number in
    ap (filter_map (slice_get p.keys)) numbers ∙ filter_map-append (slice_get p.keys) (take place sequence) (n ∷ []) ∙ rw found.2 refl
