-- What `prune` prints.
use Rattle.std.specs.Prelude.{◌++◌, ℕ, List, codes, flat_map, map, string_bytes}
use Rattle.oci_manifest.specs.Descriptor.{Descriptor, key_text}
use Rattle.oci_store.specs.Tags.{Tags}
use Rattle.oci_program.specs.declared.answer.Tagged.{Tagged}
use Rattle.oci_prune_answer.specs.Pruned.{prune_text}
use Rattle.oci_prune_commands.specs.declared.answer.FullAnswer.{FullAnswer}

-- the tags of an answer, in their order
abbrev pub tags_of : List Tagged → Tags
tags_of tagged = map (λ (t : Tagged). (string_bytes t.tag, t.descriptor)) tagged

-- the line of a tag that went, and the key that it named
abbrev pub tag_line : List ℕ × Descriptor → List ℕ
tag_line t = codes "untagged " ++ t.0 ++ codes " " ++ key_text t.1 ++ codes "\n"

abbrev pub tag_lines : Tags → List ℕ
tag_lines tags = flat_map tag_line tags

-- the lines of an answer: each tag that went, and then what else was removed
abbrev pub full_text : FullAnswer → List ℕ
full_text a = tag_lines (tags_of a.untagged.items) ++ prune_text a.pruned
