use Rattle.std.proofs.Common.{◌≡◌, ◌⊎◌, inr, Err, ◌∙◌, sym, subst, arith, rules}
use Rattle.std.specs.Prelude.{IsOk}
use Rattle.std.specs.List.{All}
use Rattle.oci_copy.specs.declared.fault.CopyFault.{CopyFault}
use Rattle.oci_copy.specs.declared.fault.CopyFault.TheVariants as copy
use Rattle.oci_layout_store.specs.Entries.{said}
use Rattle.oci_layout_store.specs.Layout.{OpenedIndex}
use Rattle.oci_selection.specs.Selected.{IsOfRoot}
use Rattle.oci_layout_copy.proofs.Refusals.{cleaned_refused}
use Rattle.oci_layout_copy.proofs.Seen.{or_else}
use Rattle.oci_layout_copy.proofs.mirror.finish.Goals as goal

pub returns-in-Ok-settle_and_clean_up-clause-pruned : goal.returns-in-Ok-settle_and_clean_up-clause-pruned
returns-in-Ok-settle_and_clean_up-clause-pruned g c =
    let only = c.put_index.ensures.only in
    let cleaned = c.in-Ok-settle_and_clean_up.ensures.pruned in (
      c.in-Ok-settle_and_clean_up.removed,
      c.copied_of.ensures.removed,
      record { settled = cleaned.settled; graph = cleaned.graph ∙ only.graph; tags = cleaned.tags ∙ only.tags; cleaned = cleaned.cleaned },
    )

pub returns-in-Ok-settle_and_clean_up-clause-only : goal.returns-in-Ok-settle_and_clean_up-clause-only
returns-in-Ok-settle_and_clean_up-clause-only g c exact named =
    c.in-Ok-settle_and_clean_up.ensures.only exact (subst (λ (index : OpenedIndex). All (IsOfRoot c.args.goal.now.0) (said index.content).entries) (sym c.put_index.ensures.put) named)

pub returns-in-Err-settle_and_clean_up-clause-refused : goal.returns-in-Err-settle_and_clean_up-clause-refused
returns-in-Err-settle_and_clean_up-clause-refused g c =
    let start = (g.D.Dir.device c.args.destination.dir).failures in
    let new = c.settle_and_clean_up.new.destination in
    or_else (g.D.Dir.device new.dir) c.args.seen.now.0
    (cleaned_refused (λ (e : CopyFault). e ≡ copy.Memory) c.args.is_exact c.args.goal.now.0 start (λ (e : CopyFault). (c.args.copied ≡ Err e) ⊎ (IsOk c.args.copied × (e ≡ copy.Memory))) (λ e is. inr (search rules, is)) start (omega arith)
    (g.D.Dir.device new.dir) new) c.in-Err-settle_and_clean_up.fault (rw c.put_index.ensures.only.dir at c.in-Err-settle_and_clean_up.ensures.refused)
