-- The fetches of a sound layout.
use Rattle.std.proofs.Common.{◌≡◌, ℕ, true, List, [], Option, Some, None, Result, refl, subst, sym, ◌∙◌}
use Rattle.std.specs.Prelude.{IfSome, IsErrOf, IsSome, OnOk}
use Rattle.std.specs.Option.{unwrap_or}
use Rattle.oci_manifest.specs.Descriptor.{Descriptor}
use Rattle.oci_store.specs.Content.{Entry, Matches}
use Rattle.oci_store.specs.Graph.{Node}
use Rattle.oci_store.specs.Keyed.{has_key, value_at}
use Rattle.oci_store.specs.declared.fault.FetchFault.{FetchFault}
use Rattle.oci_store.specs.declared.fault.FetchFault.TheVariants as fetch
use Rattle.oci_store.proofs.Lookups.{found, All-value_at}
use Rattle.oci_layout_store.specs.Blobs.{blob_at, blob_path, stored, IsBlobRead, IsNotOf, IsSound}
use Rattle.oci_dir.specs.Device.{Device, File}
use Rattle.oci_dir.proofs.Answers.{on_ok}
use Rattle.oci_layout_store.proofs.Stored.{value_at-stored}

some_or : (o : Option (List ℕ)) → IsSome o → o ≡ Some (unwrap_or o [])
some_or None h = cc h
some_or (Some bytes) h = refl

-- the file of a held key is there
there : {H : Type 0} (file : File) (graph : List Node) (k : Descriptor) → has_key graph k ≡ true → IsSound H file graph → file (blob_path k.digest) ≡ Some (blob_at file k.digest)
there file graph k held sound =
    let it = found graph k held in
    some_or (file (blob_path k.digest)) (All-value_at (λ (n : Node). IsSome (file (blob_path n.0.digest))) graph k it.0 sound.are_there it.1)

-- it matches the key
matching : {H : Type 0} (file : File) (graph : List Node) (k : Descriptor) → has_key graph k ≡ true → IsSound H file graph → Matches k (blob_at file k.digest)
matching file graph k held sound = All-value_at (λ (e : Entry). Matches e.0 e.1) (stored file graph) k (blob_at file k.digest) sound.content.matching (value_at-stored file graph k held)

-- so no read finds it missing, or with other bytes
pub good-whole : (now : Device) (graph : List Node) (k : Descriptor) (r : Result (List ℕ) FetchFault) → has_key graph k ≡ true
    → IsBlobRead now (IsNotOf k (now.file (blob_path k.digest))) r → IsErrOf r fetch.Corrupt → IsSound now.is_honest now.file graph → ⊥
good-whole now graph k r held read corrupt sound =
    read.corrupt corrupt sound.is_honest (blob_at now.file k.digest) (there now.file graph k held sound) (matching now.file graph k held sound)

pub good-part : (now : Device) (graph : List Node) (k : Descriptor) (r : Result (List ℕ) FetchFault) → has_key graph k ≡ true
    → IsBlobRead now (now.file (blob_path k.digest) ≡ None) r → IsErrOf r fetch.Corrupt → IsSound now.is_honest now.file graph → ⊥
good-part now graph k r held read corrupt sound = cc (sym (read.corrupt corrupt sound.is_honest) ∙ there now.file graph k held sound)

-- what stands under it matches it
pub sound-at : (H : Type 0) (file : File) (graph : List Node) (k : Descriptor) (r : Result (List ℕ) FetchFault) → has_key graph k ≡ true
    → OnOk r (IsSound H file graph → IfSome (value_at (stored file graph) k) (Matches k))
sound-at H file graph k r held =
    on_ok r (IsSound H file graph → IfSome (value_at (stored file graph) k) (Matches k))
    (λ sound. subst (λ (o : Option (List ℕ)). IfSome o (Matches k)) (sym (value_at-stored file graph k held)) (matching file graph k held sound))
