use Rattle.std.proofs.Common.{sym, subst}
use Rattle.std.specs.Prelude.{string_bytes}
use Rattle.oci_store.specs.Tags.{by_bytes}
use Rattle.oci_selection.specs.Selected.{AreOfRoots}
use Rattle.oci_selection.proofs.AttachedRoots.{first_of_roots}
use Rattle.oci_selection.proofs.selected.Selected.tagged.Goals as goal

pub invariant_of-result : goal.invariant_of-result
invariant_of-result c =
    let roots = c.args.roots.keys.items in
    record {
      of_roots = subst (AreOfRoots roots) (sym c.in_ok-tags.ensures) (first_of_roots roots (string_bytes c.args.name) c.args.key (by_bytes c.args.roots.tags.items) c.requires.named c.requires.rooted c.requires.others);
      named = c.requires.of_roots;
      shallow = c.requires.shallow;
    }
