-- What `repair` does to the layout in a directory.
use Rattle.std.specs.Prelude.{◌≡◌, ◌↔◌, ◌⊎◌, ℕ, List, ◌∷◌, map, Contains}
use Rattle.std.specs.List.{All}
use Rattle.std.specs.List.Sorted.{IsStrictlySortedBy}
use Rattle.oci_dir.specs.Device.{Device, Same}
use Rattle.oci_layout_store.specs.Entries.{entry_keys, said}
use Rattle.oci_layout_store.specs.Layout.{LayoutState}
use Rattle.oci_layout_store.specs.Opened.{IsOpenedAsIs}
use Rattle.oci_manifest.specs.Descriptor.{Descriptor, key_cmp}
use Rattle.oci_repair.specs.Planned.{IsPlan}
use Rattle.oci_repair.specs.Repaired.{HasMatch, IsOldOrMatch}
use Rattle.oci_repair.specs.Sources.{files_in, AreHonest}
use Rattle.oci_repair.specs.declared.plan.RepairPlan.{RepairPlan}
use Rattle.oci_repair.specs.declared.source.RepairSource.{RepairSource}
use Rattle.oci_repair_commands.specs.declared.answer.RepairAnswer.{RepairAnswer}
use Rattle.oci_repair_commands.specs.declared.plan.Task.{Task}

-- a layout was opened as it is in a directory
pub record IsOpened {D : Type 0} (device : D → Device) (dir : D) (layout : LayoutState D) : Type 0 where
  pub same : layout.dir ≡ dir
  pub opened : (device dir).is_honest → IsOpenedAsIs (device dir).file layout.graph layout.tags layout.opened

-- The task of a plan: each of its keys that a source has is put, but for those in whose place a folder
-- with contents stands, which are missing. The answer names exactly the keys that are put, and those
-- that are missing, in key order.
pub record IsTaskOf (plan : RepairPlan) (task : Task) : Type 0 where
  pub put : (m : Descriptor × ℕ) → Contains task.mends.items m → Contains plan.mends.items m
  pub each : (m : Descriptor × ℕ) → Contains plan.mends.items m → Contains task.mends.items m ⊎ Contains task.answer.missing.items m.0
  pub repaired : (k : Descriptor) → Contains task.answer.repaired.items k ↔ Contains (map (λ m. m.0) task.mends.items) k
  pub missing : (k : Descriptor) → Contains plan.missing.items k → Contains task.answer.missing.items k
  pub only : (k : Descriptor) → Contains task.answer.missing.items k → Contains plan.missing.items k ⊎ Contains (map (λ m. m.0) plan.mends.items) k
  pub order : IsStrictlySortedBy key_cmp task.answer.repaired.items
  pub missing_order : IsStrictlySortedBy key_cmp task.answer.missing.items

-- each of these mends is in one of two lists, and no other is
abbrev pub IsSplit : List (Descriptor × ℕ) → List (Descriptor × ℕ) → List (Descriptor × ℕ) → Type 0
IsSplit all mends blocked = (m : Descriptor × ℕ) → Contains all m ↔ (Contains mends m ⊎ Contains blocked m)

-- the task of a layout: each key that its entries reach, along what the layout and the sources have of
-- manifests, is whole in the layout, or is put from the first source that has it, or is missing
pub record IsTask {D F A : Type 0} (device : D → Device) (folder : F → Device) (archive : A → Device) (layout : LayoutState D) (sources : List (RepairSource F A)) (task : Task) : Type 0 where
  pub plan : RepairPlan
  pub planned : (device layout.dir).is_honest → AreHonest folder archive sources
      → IsOpenedAsIs (device layout.dir).file layout.graph layout.tags layout.opened
      → IsPlan ((device layout.dir).file ∷ files_in folder archive sources) (entry_keys (said layout.opened.content).entries) plan
  pub task_is : IsTaskOf plan task

-- the layout in a directory was opened, and the answer is that of its task
pub record IsDryRepair {D F A : Type 0} (device : D → Device) (folder : F → Device) (archive : A → Device) (dir : D) (sources : List (RepairSource F A)) (answer : RepairAnswer) : Type 0 where
  pub layout : LayoutState D
  pub opened : IsOpened device dir layout
  pub task : Task
  pub task_is : IsTask device folder archive layout sources task
  pub shown : answer ≡ task.answer

-- and the files of the task were put: each matches its key, and no other file of the directory changed
pub record IsRepairRun {D F A : Type 0} (device : D → Device) (folder : F → Device) (archive : A → Device) (dir : D) (sources : List (RepairSource F A)) (answer : RepairAnswer) : Type 0 where
  pub planned : IsDryRepair device folder archive dir sources answer
  pub left : D
  pub repaired : (device dir).is_honest → All (HasMatch (device left).file) answer.repaired.items
  pub other : (device dir).is_honest → IsOldOrMatch (device dir).file (device left).file answer.repaired.items
