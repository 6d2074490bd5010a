use Rattle.std.proofs.Common.{◌≡◌, ◌++◌, drop, map}
use Rattle.std.specs.List.{All}
use Rattle.oci_store.specs.Content.{Entry}
use Rattle.oci_tag_commands.specs.Mem.{algorithm_of, types_of, AreOfLast, IsDigestedBy}
use Rattle.oci_tag_commands.proofs.mem.push_items.Given as goal

-- the entries so far, followed by those of the items that are left
abbrev pub invariant-loop-item : goal.invariant-loop-item
invariant-loop-item g l =
    (map (λ (e : Entry). e.0.media_type) l.store.entries ++ types_of (drop l.item-index l.words.items.items) ≡ types_of l.words.items.items)
    × All (IsDigestedBy (algorithm_of l.words.algorithm)) l.store.entries × AreOfLast l.store.entries l.last.items
