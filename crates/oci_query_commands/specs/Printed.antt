-- What the commands print as lines, and the bytes that `cat` writes.
use Rattle.std.specs.Prelude.{ℕ, Bool, true, false, List, map, Option, Some, None, option_copied}
use Rattle.std.specs.Io.KnownBytes.{Appends}
use Rattle.std.specs.Map.{keys_of}
use Rattle.oci_command_line.specs.declared.request.Query.{Query}
use Rattle.oci_command_line.specs.declared.request.Query.TheVariants as query
use Rattle.oci_dir.specs.Device.{Device}
use Rattle.oci_manifest.specs.Descriptor.{Descriptor}
use Rattle.oci_layout_store.specs.Layout.{OpenedIndex}
use Rattle.oci_layout_store.specs.Meaning.{meaning}
use Rattle.oci_layout_store.specs.Opened.{IsOpenedAsIs}
use Rattle.oci_store.specs.Graph.{Node}
use Rattle.oci_store.specs.Tags.{Tags}
use Rattle.oci_reference.specs.Reference.{Names}
use Rattle.oci_query_commands.specs.Broken.{by_tag_text, AreFindingsByTag}
use Rattle.oci_query_commands.specs.Found.{AreFindings, AreFindingsBelow}
use Rattle.oci_query_commands.specs.Lines.{findings_text, key_line, key_lines, listing_lines}
use Rattle.oci_query_commands.specs.Listed.{ArePredecessorsOf, AreTags}
use Rattle.oci_query_commands.specs.Named.{IsNamed}
use Rattle.oci_query_commands.specs.Written.{WritesNamed}

-- exactly the lines of a value were appended that is an answer
abbrev pub Prints : {A : Type 0} → (A → Type 0) → (A → List ℕ) → Option (List ℕ) → Option (List ℕ) → Type 0
Prints {A} IsAnswer text old new = (answer : A) × IsAnswer answer × Appends old new (text answer)

-- exactly the lines of what `verify` finds in a whole layout were appended, with its broken tags or
-- without
abbrev pub PrintsWhole : Device → List Node → OpenedIndex → Bool → Option (List ℕ) → Option (List ℕ) → Type 0
PrintsWhole dir graph index true old new = Prints (AreFindingsByTag dir graph index) by_tag_text old new
PrintsWhole dir graph index false old new = Prints (AreFindings dir graph index) findings_text old new

-- exactly the lines of what `verify` finds below the key that a reference names were appended
abbrev pub PrintsBelow : Device → List Node → Tags → OpenedIndex → List ℕ → Option (List ℕ) → Option (List ℕ) → Type 0
PrintsBelow dir graph tags index reference old new = (k : Descriptor) × Names (keys_of graph) tags reference k × Prints (AreFindingsBelow dir graph index k) findings_text old new

-- the lines of one or the other were appended
abbrev pub PrintsFindings : Device → List Node → Tags → OpenedIndex → Option (List ℕ) → Bool → Option (List ℕ) → Option (List ℕ) → Type 0
PrintsFindings dir graph tags index None lists_broken old new = PrintsWhole dir graph index lists_broken old new
PrintsFindings dir graph tags index (Some reference) lists_broken old new = PrintsBelow dir graph tags index reference old new

-- exactly the lines of the answer of a layout to a query were appended, or the bytes of its blob;
-- nothing is said of `tree`
abbrev pub PrintsAnswer : Device → List Node → Tags → OpenedIndex → Query → Option (List ℕ) → Option (List ℕ) → Type 0
PrintsAnswer dir graph tags index (query.Tags lists_all) old new = Prints (AreTags graph tags index lists_all) listing_lines old new
PrintsAnswer dir graph tags index (query.Resolve reference platform) old new = Prints (IsNamed dir graph tags reference.now (option_copied platform)) key_line old new
PrintsAnswer dir graph tags index (query.Predecessors reference types) old new = Prints (ArePredecessorsOf (meaning dir graph tags) reference.now (map (λ t. t.now) types.items)) key_lines old new
PrintsAnswer dir graph tags index (query.Tree reference platform shows_referrers) old new = Unit {0}
PrintsAnswer dir graph tags index (query.Cat reference platform) old new = WritesNamed dir graph tags reference.now (option_copied platform) old new
PrintsAnswer dir graph tags index (query.Verify reference lists_broken workers shows_progress) old new = PrintsFindings dir graph tags index (option_copied reference) lists_broken old new

-- a layout can be opened in a directory, and its answer to a query was appended
pub record PrintsAnswerOf (dir : Device) (query : Query) (old new : Option (List ℕ)) : Type 0 where
  pub graph : List Node
  pub tags : Tags
  pub index : OpenedIndex
  pub opened : IsOpenedAsIs dir.file graph tags index
  pub answer : PrintsAnswer dir graph tags index query old new
