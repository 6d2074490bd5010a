-- What a prune prints.
use Rattle.std.specs.Prelude.{◌≡◌, ◌==◌, ◌+◌, ◌-◌, ◌^◌, ◌++◌, ℕ, Bool, false, Option, None, Some, if◌then◌else◌, List, [], codes, flat_map, length, map, min, string_bytes, sum_by, IfErr, OnOk, IsPermutation, IsSortedByKey}
use Rattle.std.specs.Cmp.Lexicographic.{slice_cmp}
use Rattle.std.specs.Ordering.{nat_cmp}
use Rattle.std.specs.Fmt.{decimal}
use Rattle.oci_layout_store.specs.Blobs.{blob_path}
use Rattle.oci_dir.specs.Prunable.{by_name}
use Rattle.oci_manifest.specs.Descriptor.{Descriptor, key_text}
use Rattle.oci_prune.specs.Pruned.{flagged}
use Rattle.oci_prune.specs.declared.plan.PrunedFile.{PrunedFile}
use Rattle.oci_prune.specs.declared.plan.PrunePlan.{PrunePlan}
use Rattle.oci_prune.specs.declared.run.Pruned.{Pruned}
use Rattle.oci_prune_answer.specs.declared.prune_answer.PruneAnswer.{PruneAnswer}
use Rattle.oci_prune_answer.specs.declared.prune_answer.RemovedFile.{RemovedFile}

-- ---- the lines

-- the line of a removed key
abbrev pub removed_line : Descriptor → List ℕ
removed_line k = codes "removed " ++ key_text k ++ codes "\n"

-- the line of a removed file; one that a held key had has none
abbrev pub file_line : RemovedFile → List ℕ
file_line file = if file.is_held then [] else codes "removed-file " ++ string_bytes file.path ++ codes " " ++ decimal file.length ++ codes "\n"

abbrev pub file_lines : List RemovedFile → List ℕ
file_lines files = flat_map file_line files

-- the end of the last line: how many free keys stay, if they were counted and there is one
abbrev pub left_text : Option ℕ → List ℕ
left_text None = codes "\n"
left_text (Some n) = if n == 0 then codes "\n" else codes " untagged " ++ decimal n ++ codes " (see --untagged)\n"

-- the last line up to there, of the counts of keys and files
abbrev pub counts_text : PruneAnswer → List ℕ
counts_text a = codes "kept " ++ decimal a.kept ++ codes " removed " ++ decimal (length a.removed.items) ++ codes " files " ++ decimal (length a.files.items)
    ++ codes " bytes " ++ decimal a.bytes.0

-- the lines of an answer
abbrev pub prune_text : PruneAnswer → List ℕ
prune_text a = flat_map removed_line a.removed.items ++ (file_lines a.files.items ++ (counts_text a ++ left_text a.untagged_left))

-- ---- the files

-- a named file: its path, its length in bytes, and whether a held key had it
pub record NamedFile : Type 0 where
  pub path : List ℕ
  pub length : ℕ
  pub is_held : Bool

-- a planned file has the path of its digest
abbrev pub of_file : PrunedFile → NamedFile
of_file f = record { path = blob_path f.digest; length = f.length; is_held = f.is_held }

-- a draft has a path of its own, and no held key has a draft
abbrev pub of_draft : List ℕ × ℕ → NamedFile
of_draft draft = record { path = draft.0; length = draft.1; is_held = false }

-- these files, and these drafts
abbrev pub of_both : List PrunedFile → List (List ℕ × ℕ) → List NamedFile
of_both files drafts = map of_file files ++ map of_draft drafts

-- all files and drafts of a plan
abbrev pub planned_files : PrunePlan → List NamedFile
planned_files plan = of_both plan.files.items (by_name plan.drafts.items)

-- those of a plan that went
abbrev pub gone_files : PrunePlan → Pruned → List NamedFile
gone_files plan done = of_both (flagged plan.files.items done.files.items) (flagged (by_name plan.drafts.items) done.drafts.items)

-- a file as an answer shows it
abbrev pub as_shown : RemovedFile → NamedFile
as_shown f = record { path = string_bytes f.path; length = f.length; is_held = f.is_held }

abbrev pub shown : List RemovedFile → List NamedFile
shown files = map as_shown files

-- ---- the answer

-- an answer names exactly these files, in byte order of their paths, and the sum of their lengths
pub record ShowsFiles (files : List NamedFile) (answer : PruneAnswer) : Type 0 where
  pub named : IsPermutation files (shown answer.files.items)
  pub sorted : IsSortedByKey (λ (f : RemovedFile). string_bytes f.path) (slice_cmp nat_cmp) answer.files.items
  pub bytes : answer.bytes.0 ≡ min (sum_by (λ (f : NamedFile). f.length) files) (2 ^ 128 - 1)

-- an answer names the keys that a plan removes, and counts those that it keeps
pub record ShowsKeys (plan : PrunePlan) (answer : PruneAnswer) : Type 0 where
  pub removed : answer.removed.items ≡ plan.removed.items
  pub kept : answer.kept ≡ length plan.kept.keys

-- an answer names all that a plan removes, and counts the keys that it keeps
pub record ShowsPlan (plan : PrunePlan) (answer : PruneAnswer) : Type 0 where
  pub keys : ShowsKeys plan answer
  pub files : ShowsFiles (planned_files plan) answer

-- It shows what was removed. If the index was not saved, all keys were kept.
pub record ShowsPruned (plan : PrunePlan) (done : Pruned) (answer : PruneAnswer) : Type 0 where
  pub saved : OnOk done.saved (ShowsKeys plan answer)
  pub unsaved : IfErr done.saved (λ fault. answer.removed.items ≡ [])
  pub all : IfErr done.saved (λ fault. answer.kept ≡ min (length plan.kept.keys + length plan.removed.items) (2 ^ 64 - 1))
  pub files : ShowsFiles (gone_files plan done) answer
