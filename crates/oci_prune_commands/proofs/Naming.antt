-- The lines of tags.
use Rattle.std.proofs.Common.{◌≡◌, ℕ, List, length, take, string_bytes, sym, ap, ◌∙◌}
use Rattle.std.specs.Prelude.{◌≤◌}
use Rattle.std.specs.List.{flat_map}
use Rattle.std.proofs.lemmas.List.{take_all}
use Rattle.std.proofs.lemmas.List.Folds.{flat_map-map}
use Rattle.oci_program.specs.declared.answer.Tagged.{Tagged}
use Rattle.oci_prune_commands.specs.PruneText.{tag_line, tag_lines, tags_of}

-- those of all tags of an answer
pub untagged_all : (items : List Tagged) (i : ℕ) → length items ≤ i → flat_map (λ (t : Tagged). tag_line (string_bytes t.tag, t.descriptor)) (take i items) ≡ tag_lines (tags_of items)
untagged_all items i all = ap (flat_map (λ (t : Tagged). tag_line (string_bytes t.tag, t.descriptor))) (take_all i items all) ∙ sym (flat_map-map tag_line (λ (t : Tagged). (string_bytes t.tag, t.descriptor)) items)
