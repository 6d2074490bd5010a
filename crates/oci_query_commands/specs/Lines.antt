-- The lines that the commands print.
use Rattle.std.specs.Prelude.{◌++◌, ℕ, List, [], codes, flat_map, Option, None, Some, string_bytes}
use Rattle.std.specs.Borrow.{Bor}
use Rattle.std.specs.Fmt.{decimal}
use Rattle.oci_manifest.specs.Descriptor.{Descriptor, key_text}
use Rattle.oci_program.specs.declared.answer.Tagged.{Tagged}
use Rattle.oci_query_commands.specs.Listed.{listing_of}
use Rattle.oci_query_commands.specs.declared.listing.Listed.{Listed}
use Rattle.oci_query_commands.specs.declared.verify.Findings.{Findings}
use Rattle.oci_query_commands.specs.declared.verify.Open.{Open}

-- ---- keys

abbrev pub key_line : Descriptor → List ℕ
key_line k = key_text k ++ codes "\n"

abbrev pub key_lines : List Descriptor → List ℕ
key_lines keys = flat_map key_line keys

-- ---- `tags`

-- a tag, or `-` in the place of none
abbrev pub tag_text : Option (List ℕ) → List ℕ
tag_text None = codes "-"
tag_text (Some tag) = tag

-- a tag and its key, or a key without a tag
abbrev pub listing_line : Option (List ℕ) × Descriptor → List ℕ
listing_line listing = tag_text listing.0 ++ codes " " ++ key_line listing.1

abbrev pub listing_lines : List (Option (List ℕ) × Descriptor) → List ℕ
listing_lines listings = flat_map listing_line listings

-- the same of the code's values
abbrev pub listed_line : Listed → List ℕ
listed_line listed = listing_line (listing_of listed)

abbrev pub listed_lines : List Listed → List ℕ
listed_lines found = flat_map listed_line found

-- ---- `verify`

-- the key of an entry without a file
abbrev pub absent_line : Bor Descriptor → List ℕ
absent_line k = codes "absent " ++ key_line k.now

abbrev pub corrupt_line : Descriptor → List ℕ
corrupt_line k = codes "corrupt " ++ key_line k

-- a layer that is not to be distributed
unfoldable pub foreign_line : Descriptor → List ℕ
foreign_line k = codes "corrupt-foreign " ++ key_line k

-- a held key, and one that it lists and that has no file
abbrev pub open_text : Option Open → List ℕ
open_text None = []
open_text (Some pair) = codes "open " ++ key_text pair.holder ++ codes " " ++ key_line pair.missing

-- an entry whose tag a later one has
abbrev pub shadowed_line : Tagged → List ℕ
shadowed_line entry = codes "shadowed " ++ string_bytes entry.tag ++ codes " " ++ key_line entry.descriptor

-- how many keys have a file
abbrev pub held_line : ℕ → List ℕ
held_line count = codes "held " ++ decimal count ++ codes "\n"

abbrev pub findings_text : Findings → List ℕ
findings_text f = flat_map absent_line f.absent.items ++ flat_map corrupt_line f.corrupt.items ++ flat_map foreign_line f.corrupt_foreign.items ++ open_text f.open ++ flat_map shadowed_line f.shadowed.items ++ held_line f.held
