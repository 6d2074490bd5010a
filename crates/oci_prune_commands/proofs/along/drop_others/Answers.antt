use Rattle.std.proofs.Common.{◌≡◌, true, List, inl, inr, sym, ap, subst, ◌∙◌}
use Rattle.std.specs.BTreeSet.{contains}
use Rattle.std.specs.List.{All}
use Rattle.std.specs.Map.{values_of}
use Rattle.std.proofs.lemmas.Result.{err_from_is_err_and}
use Rattle.oci_manifest.specs.Descriptor.{Descriptor, key_cmp}
use Rattle.oci_layout_store.specs.Layout.{LayoutState}
use Rattle.oci_store.specs.Graph.{Node}
use Rattle.oci_store.specs.Tags.{Tags}
use Rattle.oci_prune.specs.Pruned.{kept_of}
use Rattle.oci_prune_commands.proofs.Untagging.{sound_same, tags_are_kept}
use Rattle.oci_prune_commands.proofs.along.drop_others.Goals as goal

pub retain-requires : goal.retain-requires
retain-requires g c = record {
  tagged = subst (λ (ts : Tags). All (λ (k : Descriptor). contains key_cmp c.args.kept.now k ≡ true) (values_of ts)) (sym c.in_ok-untag_others.ensures.tags) (tags_are_kept c.args.kept.now c.args.layout.now.tags);
}

pub returns-clause-dropped : goal.returns-clause-dropped
returns-clause-dropped g c =
    let only = c.untag_others.ensures.only in
    let retained = c.in_ok-retain.ensures in
    record {
      graph = retained.retained ∙ ap (λ (ns : List Node). kept_of c.args.kept.now ns) only.graph;
      tags = retained.tags ∙ c.in_ok-untag_others.ensures.tags;
      opened = retained.opened ∙ only.opened;
    }

pub returns-in_err-retain-clause-refused : goal.returns-in_err-retain-clause-refused
returns-in_err-retain-clause-refused g c =
    let only = c.untag_others.ensures.only in
    let retained = c.in_err-retain.ensures in
    let p = err_from_is_err_and c.from_residual-in_err-retain.result c.from_residual-in_err-retain.ensures.1 in
    rw p.1 (inr (record {
      either = inl (ap (λ (s : LayoutState g.row.D.Denot). s.graph) retained.refused ∙ only.graph);
      tags = retained.tags ∙ c.in_ok-untag_others.ensures.tags;
      opened = retained.opened ∙ only.opened;
    }))

pub returns-clause-sound : goal.returns-clause-sound
returns-clause-sound g c = λ sound.
    let only = c.untag_others.ensures.only in
    c.in_ok-retain.ensures.sound (sound_same g.D.Dir.device c.args.layout.now c.untag_others.new.layout only.dir only.graph sound)

pub returns-in_err-retain-clause-sound : goal.returns-in_err-retain-clause-sound
returns-in_err-retain-clause-sound g c = λ sound.
    let only = c.untag_others.ensures.only in
    c.in_err-retain.ensures.sound (sound_same g.D.Dir.device c.args.layout.now c.untag_others.new.layout only.dir only.graph sound)

pub returns-in_err-untag_others-clause-sound : goal.returns-in_err-untag_others-clause-sound
returns-in_err-untag_others-clause-sound g c =
    let only = c.untag_others.ensures.only in
    sound_same g.D.Dir.device c.args.layout.now c.untag_others.new.layout only.dir only.graph
