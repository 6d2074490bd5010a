-- A folder whose `index.json` is lost.
use Rattle.std.proofs.Common.{◌≡◌, ℕ, Bool, true, false, inl, inr, List, [], ◌∷◌, length, is_some, String, Global, refl, sym, ap, ◌∙◌, arith, nat_eq}
use Rattle.std.specs.Prelude.{Contains, IsSome}
use Rattle.std.proofs.lemmas.Bool.{true≢false}
use Rattle.oci_dir.specs.Device.{Device, File}
use Rattle.oci_dir.specs.Prunable.{ListsFolder, by_name}
use Rattle.oci_layout_store.specs.Index.{index_file}
use Rattle.oci_layout_store.specs.declared.fault.LayoutFault.TheVariants as layout
use Rattle.oci_program.specs.Indexed.{HasIndexOrNoBlobs, HasNoBlobs, IsRefusedWithout}
use Rattle.oci_program.specs.declared.fault.ProgramFault.{ProgramFault}
use Rattle.oci_program.specs.declared.fault.ProgramFault.TheVariants as program

-- a folder with a file is not one without files
pub not_both : (file : File) (folder : List ℕ) (files : List (List ℕ × ℕ)) → ListsFolder file folder files → ListsFolder file folder [] → files ≡ []
not_both file folder [] lists empty = refl
not_both file folder (f ∷ files) lists empty =
    let first : Contains (f ∷ files) (f.0, f.1) = (0, omega arith, refl) in
    let there = (empty f.0 f.1).1 ((lists f.0 f.1).0 first) in
    absurd (omega (arith, there.1))

-- a list without names has no elements
pub no_names : (files : List (String Global × ℕ)) → by_name files ≡ [] → files ≡ []
no_names [] h = refl
no_names (f ∷ files) h = cc h

-- a list is not empty that was found to have elements
pub not_empty : {X : Type 0} (xs : List X) (count : ℕ) (is_empty : Bool) → count ≡ length xs → is_empty ≡ nat_eq count 0 → is_empty ≡ false → xs ≡ [] → ⊥
not_empty xs count is_empty counted is never none = cc (sym never ∙ is ∙ ap (λ (n : ℕ). nat_eq n 0) (counted ∙ ap length none))

-- a directory that has no index is refused for its blobs
pub refused_index : (dir : Device) (e : ProgramFault) → (dir.is_honest → is_some (dir.file index_file) ≡ false) → IsRefusedWithout dir (HasNoBlobs dir.file) e → IsRefusedWithout dir (HasIndexOrNoBlobs dir.file) e
refused_index dir program.NoIndex none h = λ honest holds. elim holds [
  | inl there ↦ true≢false (sym there ∙ none honest)
  | inr empty ↦ h honest empty
]
refused_index dir (program.Destination layout.Device) none h = h
refused_index dir (program.Destination layout.Memory) none h = h
refused_index dir (program.Destination layout.NoLayoutFile) none h = absurd h
refused_index dir (program.Destination layout.BadLayoutFile) none h = absurd h
refused_index dir (program.Destination layout.BadVersion) none h = absurd h
refused_index dir (program.Destination (layout.BadIndex e)) none h = absurd h
refused_index dir (program.Destination (layout.Corrupt k)) none h = absurd h
refused_index dir (program.Destination (layout.BadManifest k e)) none h = absurd h
refused_index dir (program.Destination layout.AlreadyLayout) none h = absurd h
refused_index dir e none h = absurd h
