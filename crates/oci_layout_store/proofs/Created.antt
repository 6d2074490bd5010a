-- An empty layout whose files were put and settled.
use Rattle.std.proofs.Common.{◌≡◌, true, false, is_some, inr, ℕ, List, [], ◌∷◌, Some, Result, Ok, refl, subst}
use Rattle.std.specs.Prelude.{IsSome, OnOk}
use Rattle.std.specs.List.{All}
use Rattle.std.specs.Str.{bytes_eq}
use Rattle.std.proofs.lemmas.List.Elements.{All-head, All-tail, All-nil}
use Rattle.std.proofs.lemmas.Slice.Eq.{bytes_eq-Decides}
use Rattle.oci_manifest.specs.Descriptor.{Descriptor, IsKey}
use Rattle.oci_store.specs.Graph.{Node}
use Rattle.oci_store.specs.Keyed.{HasAll}
use Rattle.oci_store.proofs.Contents.{IsContent-nil}
use Rattle.oci_layout_store.specs.Blobs.{blob_path}
use Rattle.oci_dir.specs.Crash.{IsSettled}
use Rattle.oci_layout_store.specs.Created.{IsCreated, IsFresh}
use Rattle.oci_dir.specs.Device.{Device, Puts, TouchesTwo}
use Rattle.oci_layout_store.specs.Entries.{no_content}
use Rattle.oci_layout_store.specs.Index.{index_file, index_value, layout_file, layout_text, IsCompact}
use Rattle.oci_layout_store.specs.Lasts.{Lasts}
use Rattle.oci_layout_store.specs.Layout.{no_index}
use Rattle.oci_layout_store.specs.Settled.{AfterSettling, PutsSettled}
use Rattle.oci_dir.specs.declared.fault.DirFault.{DirFault}
use Rattle.oci_layout_store.proofs.Crash.{StaysOf}
use Rattle.oci_layout_store.proofs.Files.{HasFiles-fresh, HasFreshTexts-fresh}
use Rattle.oci_dir.proofs.Answers.{on_ok-map}
use Rattle.oci_layout_store.proofs.Settled.{calm_after}

pub two_put : (old mid new : Device) (bytes : List ℕ) (first second : List (List ℕ)) (answer : Result Unit DirFault) → PutsSettled old mid layout_file layout_text first (Ok tt)
    → PutsSettled mid new index_file bytes second answer → IsCompact bytes (index_value no_content) → OnOk answer (old.is_honest → IsFresh new.file)
two_put old mid new bytes first second answer one two compact =
    on_ok-map answer (mid.is_honest → Puts mid.file new.file index_file bytes) (old.is_honest → IsFresh new.file) two.put
    (λ puts honest.
    let h = one.device.honest.0 honest in
    let same : bytes_eq layout_file layout_file ≡ true = (bytes_eq-Decides layout_file layout_file).1 refl in
    let there : mid.file layout_file ≡ Some layout_text = rw same at (one.put honest layout_file) in
    let put : (b : List ℕ) × IsCompact b (index_value no_content) × Puts mid.file new.file index_file b = (bytes, compact, puts h) in
    record { files = HasFiles-fresh mid.file new.file there (two.other h) put; texts = HasFreshTexts-fresh mid.file new.file there (two.other h) put })

pub two_settled : (old mid new : Device) (text bytes : List ℕ) (first second paths : List (List ℕ)) (answer : Result Unit DirFault) → second ≡ paths → PutsSettled old mid layout_file text first (Ok tt)
    → PutsSettled mid new index_file bytes second answer → OnOk answer (old.is_honest → All (IsSettled new) paths)
two_settled old mid new text bytes first second paths answer e one two =
    on_ok-map answer (mid.is_honest → All (IsSettled new) second) (old.is_honest → All (IsSettled new) paths) two.settled
    (λ settled honest. subst (λ (ps : List (List ℕ)). All (IsSettled new) ps) e (settled (one.device.honest.0 honest)))

-- an empty layout whose two files were settled lasts
pub fresh_lasts : (new : Device) → new.is_honest → IsFresh new.file → All (IsSettled new) (layout_file ∷ index_file ∷ []) → Lasts new [] []
fresh_lasts new honest fresh settled = record {
  is_honest = honest;
  file = new.file;
  graph = [];
  layout = record {
    opened = no_index;
    are_keys = All-nil IsKey;
    closed = All-nil (λ (n : Node). HasAll {X = List Descriptor} [] n.1);
    is = inr (inr fresh.files);
    are_there = All-nil (λ (n : Node). IsSome (new.file (blob_path n.0.digest)));
    contents = refl;
  };
  keeps = record {
    layout = All-head (IsSettled new) layout_file (index_file ∷ []) settled;
    index = All-head (IsSettled new) index_file [] (All-tail (IsSettled new) layout_file (index_file ∷ []) settled);
    blobs = All-nil (StaysOf new new.file);
  };
}

pub created : (old new : Device) (done : Unit) → (old.is_honest → is_some (old.file layout_file) ≡ false) → (old.is_honest → IsFresh new.file) → (old.is_honest → All (IsSettled new) (layout_file ∷ index_file ∷ []))
    → (old.is_honest → TouchesTwo old.file new.file layout_file index_file) → AfterSettling old new (Ok done) → IsCreated old new
created old new done absent fresh settled other after = record {
  absent = absent;
  fresh = fresh;
  sound = λ h. record { is_honest = after.honest.0 h; are_there = All-nil (λ (n : Node). IsSome (new.file (blob_path n.0.digest))); content = IsContent-nil; listed = refl };
  lasts = λ h. fresh_lasts new (after.honest.0 h) (fresh h) (settled h);
  other = other;
  calm = calm_after old new after;
}
