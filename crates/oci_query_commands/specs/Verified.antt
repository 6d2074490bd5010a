-- Layouts in which `verify` finds nothing wrong (OCI image specification 1.1, image-layout.md).
use Rattle.std.specs.Prelude.{◌≡◌, ◌↔◌, ◌∷◌, ℕ, Bool, true, false, List, [], Option, None, option_copied, Contains}
use Rattle.std.specs.List.{All}
use Rattle.std.specs.Map.{keys_of}
use Rattle.oci_command_line.specs.declared.request.Query.{Query}
use Rattle.oci_command_line.specs.declared.request.Query.TheVariants as query
use Rattle.oci_layout_store.specs.Blobs.{blob_at, HasMatchingFiles}
use Rattle.oci_dir.specs.Device.{Device}
use Rattle.oci_layout_store.specs.Layout.{OpenedIndex}
use Rattle.oci_layout_store.specs.Opened.{IsOpenedAsIs}
use Rattle.oci_store.specs.Closed.{IsClosed}
use Rattle.oci_manifest.specs.Descriptor.{Descriptor}
use Rattle.oci_reference.specs.Reference.{Names}
use Rattle.oci_store.specs.Content.{Matches}
use Rattle.oci_store.specs.Graph.{Node, Reaches}
use Rattle.oci_store.specs.Keyed.{has_key}
use Rattle.oci_store.specs.Tags.{Tags}
use Rattle.oci_program.specs.declared.outcome.Outcome.{Outcome}
use Rattle.oci_program.specs.declared.outcome.Outcome.TheVariants as outcome
use Rattle.oci_query_commands.specs.Answered.{AreReadable}
use Rattle.oci_query_commands.specs.Foreign.{has_wrong_file, ListsForeign}
use Rattle.oci_query_commands.specs.declared.verify.Findings.{Findings}

-- whether the command is `verify` of a whole layout
abbrev pub is_verify : Query → Bool
is_verify (query.Verify None lists_broken workers shows_progress) = true
is_verify other = false

-- the outcome of a command is that of a `verify` which finds nothing
abbrev pub IsGoodVerify : Query → Outcome → Type 0
IsGoodVerify query found = (is_verify query ≡ true) × (found ≡ outcome.Good)

-- the outcome of a command is that of a `verify` which finds something
abbrev pub IsFaultyVerify : Query → Outcome → Type 0
IsFaultyVerify query found = (is_verify query ≡ true) × (found ≡ outcome.Faulty)

-- a layout can be opened in a directory, and nothing is wrong with it: each entry of its index is a
-- descriptor and has its file, no file is damaged, the file of each held key is there and matches
-- it, and each listed key is held. No file of a layer that is not to be distributed is wrong.
pub record IsVerified (dir : Device) : Type 0 where
  pub graph : List Node
  pub tags : Tags
  pub index : OpenedIndex
  pub opened : IsOpenedAsIs dir.file graph tags index
  pub readable : AreReadable index
  pub entries : index.absent ≡ []
  pub undamaged : index.damaged ≡ []
  pub matching : HasMatchingFiles dir.file graph
  pub closed : IsClosed graph
  pub foreign : (from k : Descriptor) → ListsForeign dir.file graph from k → has_wrong_file dir.file k ≡ false

-- ---- a layout that was opened

-- the bytes of its file in an honest directory match each held key
abbrev pub AreIntact : Device → List Node → Type 0
AreIntact dir graph = dir.is_honest → All (λ (n : Node). Matches n.0 (blob_at dir.file n.0.digest)) graph

-- nothing is wrong with a layout: each entry of its index is a descriptor, none is absent, no file is
-- damaged, each held key is intact, and each listed key is held. No file of a layer that is not to be
-- distributed is wrong.
pub record IsWhole (dir : Device) (graph : List Node) (index : OpenedIndex) : Type 0 where
  pub readable : AreReadable index
  pub entries : index.absent ≡ []
  pub undamaged : index.damaged ≡ []
  pub intact : AreIntact dir graph
  pub closed : IsClosed graph
  pub foreign : dir.is_honest → (from k : Descriptor) → ListsForeign dir.file graph from k → has_wrong_file dir.file k ≡ false

-- a layout can be opened in a directory, and something is wrong with it
pub record IsFaulty (dir : Device) : Type 0 where
  pub graph : List Node
  pub tags : Tags
  pub index : OpenedIndex
  pub opened : IsOpenedAsIs dir.file graph tags index
  pub wrong : IsWhole dir graph index → ⊥

-- ---- below a key

-- the reference of a `verify` of what a reference reaches
abbrev pub verified_reference : Query → Option (List ℕ)
verified_reference (query.Verify reference lists_broken workers shows_progress) = option_copied reference
verified_reference other = None

-- nothing is wrong with what a key reaches: none of it is absent or damaged, and each key of it is held
-- and intact. No file of a layer that one of its manifests lists as not to be distributed is wrong.
pub record IsWholeBelow (dir : Device) (graph : List Node) (index : OpenedIndex) (root : Descriptor) : Type 0 where
  pub entries : (k : Descriptor) → Reaches graph (root ∷ []) k → Contains index.absent k → ⊥
  pub undamaged : (k : Descriptor) → Reaches graph (root ∷ []) k → Contains index.damaged k → ⊥
  pub held : (k : Descriptor) → Reaches graph (root ∷ []) k → has_key graph k ≡ true
  pub intact : dir.is_honest → (k : Descriptor) → Reaches graph (root ∷ []) k → Matches k (blob_at dir.file k.digest)
  pub foreign : dir.is_honest → (from k : Descriptor) → Reaches graph (root ∷ []) from → ListsForeign dir.file graph from k → has_wrong_file dir.file k ≡ false

-- the outcome is good exactly if nothing is wrong with what the key that a reference names reaches
pub record IsVerdict (dir : Device) (graph : List Node) (tags : Tags) (index : OpenedIndex) (reference : List ℕ) (found : Outcome) : Type 0 where
  pub key : Descriptor
  pub named : Names (keys_of graph) tags reference key
  pub exact : (found ≡ outcome.Good) ↔ IsWholeBelow dir graph index key

-- a key is held, and the bytes of its file match it
abbrev pub IsSound : Device → List Node → Descriptor → Type 0
IsSound dir graph k = (has_key graph k ≡ true) × Matches k (blob_at dir.file k.digest)

-- A layout can be opened in a directory. If the outcome of a `verify` of a reference is good, each key
-- that the reference reaches is held and matches its file, and no file of a layer that one lists as not
-- to be distributed is wrong. If the outcome is faulty, something is wrong with them.
pub record IsVerifiedBelow (dir : Device) (reference : List ℕ) (found : Outcome) : Type 0 where
  pub graph : List Node
  pub tags : Tags
  pub index : OpenedIndex
  pub opened : IsOpenedAsIs dir.file graph tags index
  pub key : Descriptor
  pub named : Names (keys_of graph) tags reference key
  pub good : found ≡ outcome.Good → (k : Descriptor) → Reaches graph (key ∷ []) k → IsSound dir graph k
  pub foreign : found ≡ outcome.Good → (from k : Descriptor) → Reaches graph (key ∷ []) from → ListsForeign dir.file graph from k → has_wrong_file dir.file k ≡ false
  pub faulty : found ≡ outcome.Faulty → IsWholeBelow dir graph index key → ⊥

-- ---- the code

-- no key is absent or corrupt, no layer that is not to be distributed is, and no key lists one without a
-- file
abbrev pub FindsNothing : Findings → Type 0
FindsNothing findings = (findings.absent.items ≡ []) × (findings.corrupt.items ≡ []) × (findings.corrupt_foreign.items ≡ []) × (findings.open ≡ None)
