use Rattle.std.proofs.Common.{◌∙◌}
use Rattle.std.proofs.lemmas.List.{length-set}
use Rattle.oci_prune.proofs.Noting.{notes_file}
use Rattle.oci_prune.proofs.Sparing.{same_memory_both, settled_both, spares_file, all_gone, flags_more}
use Rattle.oci_prune.proofs.Settling.{among_at}
use Rattle.oci_prune.specs.Pruned.{IsOfNoEntry}
use Rattle.oci_prune.proofs.removal.remove_files.Goals as goal

pub loop-place-preserved : goal.loop-place-preserved
loop-place-preserved g c =
    let w = c.loop-place.invariant in
    let a = g.D.Dir.device c.args.layout.now.dir in
    let b = g.D.Dir.device c.loop-place.layout.dir in
    let d = g.D.Dir.device c.remove_file.new.layout.dir in
    let did = c.remove_file.ensures in
    let held = c.args.are_held in
    let files = c.args.files.now in
    let i = c.loop-place.place in
    let f = c.index-files-place.result in
    let inside = c.loop-place-test.true in
    let is = c.index-files-place.is in
    record {
      removal = record {
        memory = same_memory_both c.args.layout.now c.loop-place.layout c.remove_file.new.layout w.removal.memory did.removal.memory;
        spared = spares_file a b d c.args.layout.now.graph c.loop-place.layout.graph held files i f inside is w.removal.spared w.removal.memory.graph did.removal.spared;
        settled = settled_both a b d c.args.layout.now.graph c.loop-place.layout.graph w.removal.spared.honest.0 w.removal.memory.graph w.removal.settled did.removal.settled;
        fault = λ none. w.removal.fault (did.removal.fault none);
        notes = notes_file a b held files i f c.args.fault.now c.loop-place.fault c.remove_file.new.fault inside is w.removal.spared.reads w.removal.notes did.removal.notes;
        failures = did.removal.failures ∙ w.removal.failures;
      };
      removed = λ none honest.
          all_gone b d c.loop-place.layout.graph held files i f inside is (w.removal.spared.honest.0 honest) did.removal.spared (did.removed none (w.removal.spared.honest.0 honest)) (w.removed (did.removal.fault none) honest);
      flags = λ honest right.
          flags_more a b d c.args.layout.now.graph c.loop-place.layout.graph held files i f c.loop-place.gone.items c.index.result.now c.remove_file.result inside is c.index.ensures (c.requires.there honest) (c.requires.apart honest) w.removal.spared did.removal.spared honest
          (w.flags honest right) (did.flag (w.removal.spared.honest.0 honest));
      drafts = λ honest path. did.drafts (w.removal.spared.honest.0 honest) path ∙ w.drafts honest path;
      noted = length-set c.loop-place.gone.items i c.remove_file.result ∙ w.noted;
      lasts = λ entries tags apart was. did.lasts entries tags (among_at held (IsOfNoEntry entries) files i f inside is apart) (w.lasts entries tags apart was);
    }
