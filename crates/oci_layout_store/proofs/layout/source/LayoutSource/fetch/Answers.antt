use Rattle.std.proofs.Common.{◌≡◌, List, ℕ, true, Some, Result, Ok, Err, sym, ◌∙◌}
use Rattle.std.specs.Prelude.{IfOk}
use Rattle.oci_manifest.specs.Descriptor.{Descriptor}
use Rattle.oci_store.specs.Graph.{Node}
use Rattle.oci_store.specs.Keyed.{has_key, value_at}
use Rattle.oci_store.specs.declared.fault.FetchFault.{FetchFault}
use Rattle.oci_layout_store.specs.Blobs.{stored, blob_path}
use Rattle.oci_dir.specs.Device.{File}
use Rattle.oci_layout_store.proofs.Drafted.{IsFetch-absent, IsFetch-held}
use Rattle.oci_layout_store.proofs.Fetched.{good-whole}
use Rattle.oci_layout_store.proofs.Stored.{value_at-read}
use Rattle.oci_layout_store.proofs.layout.source.LayoutSource.fetch.Goals as goal

read_back : (H : Type 0) (file : File) (graph : List Node) (k : Descriptor) (r : Result (List ℕ) FetchFault) → has_key graph k ≡ true
    → IfOk r (λ bytes. H → file (blob_path k.digest) ≡ Some bytes) → IfOk r (λ bytes. H → value_at (stored file graph) k ≡ Some bytes)
read_back H file graph k (Ok bytes) held read = λ h. value_at-read file graph k bytes held (read h)
read_back H file graph k (Err e) held read = tt

pub returns-then-not-holds-clause-cause : goal.returns-then-not-holds-clause-cause
returns-then-not-holds-clause-cause g c =
    let s = c.self.inside in
    rw (← c.self.view_is) (IsFetch-absent (g.D.Dir.device s.dir) s.graph c.args.key.now _ (sym c.holds.ensures ∙ c.if-not-holds.true))

pub returns-clause-cause : goal.returns-clause-cause
returns-clause-cause g c =
    let s = c.self.inside in
    rw (← c.self.view_is) (IsFetch-held (g.D.Dir.device s.dir) s.graph c.args.key.now _ c.read_blob.result (sym c.holds.ensures ∙ c.if-not-holds.false) c.read_blob.ensures.cause)

pub returns-clause-honest : goal.returns-clause-honest
returns-clause-honest g c =
    let s = c.self.inside in
    rw (← c.self.view_is) (read_back (g.D.Dir.device s.dir).is_honest (g.D.Dir.device s.dir).file s.graph c.args.key.now c.read_blob.result (sym c.holds.ensures ∙ c.if-not-holds.false) c.read_blob.ensures.read)

pub returns-clause-good : goal.returns-clause-good
returns-clause-good g c =
    let s = c.self.inside in
    rw (← c.self.view_is) (good-whole (g.D.Dir.device s.dir) s.graph c.args.key.now c.read_blob.result (sym c.holds.ensures ∙ c.if-not-holds.false) c.read_blob.ensures.cause)
