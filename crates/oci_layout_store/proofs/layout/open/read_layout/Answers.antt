use Rattle.std.proofs.Common.{◌≡◌, ◌∙◌, List, false, map, sym, subst, ap}
use Rattle.std.specs.List.{All, filter}
use Rattle.std.proofs.lemmas.Result.{err_from_is_err_and}
use Rattle.oci_manifest.specs.Descriptor.{Descriptor}
use Rattle.oci_store.specs.Keyed.{has_key}
use Rattle.oci_layout_store.specs.Entries.{entry_keys, entry_of}
use Rattle.oci_layout_store.specs.Opened.{HasWalked, is_damaged}
use Rattle.oci_layout_store.specs.declared.index.IndexEntry.{IndexEntry as CodeEntry}
use Rattle.oci_layout_store.proofs.Opened.{absent-unheld}
use Rattle.oci_layout_store.proofs.Refusals.{fault_by}
use Rattle.oci_layout_store.proofs.layout.open.read_layout.Goals as goal

pub returns-clause-read : goal.returns-clause-read
returns-clause-read g c = λ honest.
    let as_is = c.args.as_is in
    let file = (g.D.Dir.device c.args.dir.now).file in
    let graph = c.in_ok-held.held.graph in
    let damaged = c.in_ok-held.damaged.items in
    let of_index = ap (λ (es : List CodeEntry). entry_keys (map entry_of es)) c.entries.ensures.entries in
    let walked = subst (λ (ks : List Descriptor). (w : HasWalked as_is file ks graph) × (damaged ≡ filter (is_damaged as_is file) w.visited))
    (c.deref.ensures.value ∙ c.in_ok-keys.ensures ∙ of_index) (c.in_ok-held.ensures.walked honest) in
    record {
      layout = c.in_ok-check_version.ensures.found honest;
      index = c.in_ok-content.ensures.read honest;
      walked = walked.0;
      absent_is = rw (c.deref-2.ensures.value, c.in_ok-keys.ensures, c.entries.ensures.entries) at c.in_ok-absent.ensures;
      damaged_is = walked.1;
    }

pub returns-clause-absent : goal.returns-clause-absent
returns-clause-absent g c =
    let graph = c.in_ok-held.held.graph in
    subst (λ ks. All (λ k. has_key graph k ≡ false) ks) (sym c.in_ok-absent.ensures) (absent-unheld graph _)

pub returns-in_err-check_version-clause-cause : goal.returns-in_err-check_version-clause-cause
returns-in_err-check_version-clause-cause g c =
    let p = err_from_is_err_and c.from_residual.result c.from_residual.ensures.1 in
    rw (p.1, p.2) (fault_by c.args.as_is (g.D.Dir.device c.args.dir.now) c.in_err-check_version.field-0.0 c.in_err-check_version.ensures.cause)
