-- Drafts that are kept, and parts that are read.
use Rattle.std.proofs.Common.{◌≡◌, Bool, ℕ, List, true, false, Option, Some, None, Result, Ok, Err, refl, ◌∙◌}
use Rattle.std.specs.Prelude.{◌↔◌, IfOk, IsErrOf}
use Rattle.oci_manifest.specs.Descriptor.{Descriptor}
use Rattle.oci_store.specs.Graph.{Node}
use Rattle.oci_store.specs.Keyed.{has_key, value_at}
use Rattle.oci_store.specs.Parts.{IsPart}
use Rattle.oci_store.specs.declared.fault.FetchFault.{FetchFault}
use Rattle.oci_store.specs.declared.fault.FetchFault.TheVariants as fetch
use Rattle.oci_layout_store.specs.Blobs.{stored, blob_path, IsBlobRead, IsFetch}
use Rattle.oci_dir.specs.Device.{Device, File, part_in}
use Rattle.oci_dir.proofs.Answers.{on_ok}
use Rattle.oci_layout_store.proofs.Stored.{has_key-stored, value_at-read}

-- a refusal that never comes
never : (N : Type 0) (b : Bool) → b ≡ true → (N → ⊥) → N ↔ (b ≡ false)
never N b held none = (λ n. absurd (none n), λ f. cc (held, f))

-- a fetch of a key that is not held, and one that reads the key's file
pub IsFetch-absent : (now : Device) (graph : List Node) (k : Descriptor) (wrong : Type 0) → has_key graph k ≡ false → IsFetch now graph k wrong (Err fetch.NotFound)
IsFetch-absent now graph k wrong absent = record {
  held = tt;
  not_found = (λ _. has_key-stored now.file graph k ∙ absent, λ _. refl);
  device = λ e. cc e;
  corrupt = λ e. cc e;
}

pub IsFetch-held : (now : Device) (graph : List Node) (k : Descriptor) (wrong : Type 0) (answer : Result (List ℕ) FetchFault) → has_key graph k ≡ true → IsBlobRead now wrong answer → IsFetch now graph k wrong answer
IsFetch-held now graph k wrong answer held read =
    let there : has_key (stored now.file graph) k ≡ true = has_key-stored now.file graph k ∙ held in
    record {
      held = on_ok answer (has_key (stored now.file graph) k ≡ true) there;
      not_found = never (IsErrOf answer fetch.NotFound) (has_key (stored now.file graph) k) there read.not_found;
      device = read.device;
      corrupt = read.corrupt;
    }

-- there is no part only where there is no file
pub no_part : (found : Option (List ℕ)) (from most : ℕ) → None ≡ part_in found from most → found ≡ None
no_part None from most h = refl
no_part (Some bytes) from most h = cc h

pub part_back : (H : Type 0) (file : File) (graph : List Node) (k : Descriptor) (from most : ℕ) (r : Result (List ℕ) FetchFault) → has_key graph k ≡ true
    → IfOk r (λ part. H → IsPart (file (blob_path k.digest)) from most part) → IfOk r (λ part. H → IsPart (value_at (stored file graph) k) from most part)
part_back H file graph k from most (Ok part) held read = λ h. let p = read h in (p.0, value_at-read file graph k p.0 held p.1, p.2)
part_back H file graph k from most (Err e) held read = tt
