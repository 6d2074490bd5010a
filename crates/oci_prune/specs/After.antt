-- The store that a copy of keys leaves, as a function of the source and of the destination before.
use Rattle.std.proofs.Common.{◌≡◌, Bool, true, false, cond, ◌||◌, List, [], ◌∷◌, ◌++◌, filter, refl, sym, ap, ◌∙◌}
use Rattle.std.proofs.lemmas.List.{map-append}
use Rattle.std.specs.BTreeSet.{BTreeSet, contains}
use Rattle.std.specs.Map.{keys_of}
use Rattle.oci_manifest.specs.Descriptor.{Descriptor, key_cmp}
use Rattle.oci_store.specs.Content.{Entry}
use Rattle.oci_store.specs.Graph.{Node, node_of, nodes_of}
use Rattle.oci_store.specs.State.{State}

-- what is there under keys, and then what a source has under those keys that arrive; a key that is
-- there already keeps what it has, since a look-up finds the first
abbrev pub with_arriving : {X : Type 0} → (Descriptor → Bool) → List (Descriptor × X) → List (Descriptor × X) → List (Descriptor × X)
with_arriving {X} arrives source there = there ++ filter (λ (p : Descriptor × X). arrives p.0) source

-- the store after a copy of these keys: it has what the destination has, and then what the source has
-- under the keys
abbrev pub after_copy : State → BTreeSet Descriptor → State → State
after_copy source keys old = record {
  nodes = with_arriving (contains key_cmp keys) source.nodes old.nodes;
  entries = with_arriving (contains key_cmp keys) source.entries old.entries;
  tags = old.tags;
  name = old.name;
  lasts = old.lasts;
  failures = old.failures;
  fails_at = λ k. source.fails_at k || old.fails_at k;
  is_honest = source.is_honest × old.is_honest;
  is_sound = source.is_sound × old.is_sound;
  is_halted = old.is_halted;
}

-- ---- it is a store

keys_arriving : {X : Type 0} (arrives : Descriptor → Bool) (source : List (Descriptor × X)) → keys_of (filter (λ (p : Descriptor × X). arrives p.0) source) ≡ filter arrives (keys_of source)
keys_arriving arrives [] = refl
keys_arriving {X} arrives (p ∷ source) =
    let rest = keys_arriving arrives source in
    elim (arrives p.0) as (λ b. keys_of (cond b (p ∷ filter (λ (q : Descriptor × X). arrives q.0) source) (filter (λ (q : Descriptor × X). arrives q.0) source)) ≡ cond b (p.0 ∷ filter arrives (keys_of source)) (filter arrives (keys_of source))) [
      | true ↦ ap (λ (ks : List Descriptor). p.0 ∷ ks) rest
      | false ↦ rest
    ]

nodes_arriving : (arrives : Descriptor → Bool) (source : List Entry) → nodes_of (filter (λ (e : Entry). arrives e.0) source) ≡ filter (λ (n : Node). arrives n.0) (nodes_of source)
nodes_arriving arrives [] = refl
nodes_arriving arrives (e ∷ source) =
    let rest = nodes_arriving arrives source in
    elim (arrives e.0) as (λ b. nodes_of (cond b (e ∷ filter (λ (q : Entry). arrives q.0) source) (filter (λ (q : Entry). arrives q.0) source)) ≡ cond b (node_of e ∷ filter (λ (n : Node). arrives n.0) (nodes_of source)) (filter (λ (n : Node). arrives n.0) (nodes_of source))) [
      | true ↦ ap (λ (ns : List Node). node_of e ∷ ns) rest
      | false ↦ rest
    ]

keys_joined : {X : Type 0} (arrives : Descriptor → Bool) (source there : List (Descriptor × X)) → keys_of (with_arriving arrives source there) ≡ keys_of there ++ filter arrives (keys_of source)
keys_joined {X} arrives source there =
    map-append (λ (p : Descriptor × X). p.0) there (filter (λ (p : Descriptor × X). arrives p.0) source) ∙ ap (λ (ks : List Descriptor). keys_of there ++ ks) (keys_arriving arrives source)

-- the nodes and the entries have the same keys
pub same_keys_after : (arrives : Descriptor → Bool) (nodes old_nodes : List Node) (entries old_entries : List Entry) → keys_of nodes ≡ keys_of entries → keys_of old_nodes ≡ keys_of old_entries → keys_of (with_arriving arrives nodes old_nodes) ≡ keys_of (with_arriving arrives entries old_entries)
same_keys_after arrives nodes old_nodes entries old_entries same same_old =
    keys_joined arrives nodes old_nodes
    ∙ ap (λ (ks : List Descriptor). ks ++ filter arrives (keys_of nodes)) same_old
    ∙ ap (λ (ks : List Descriptor). keys_of old_entries ++ filter arrives ks) same
    ∙ sym (keys_joined arrives entries old_entries)

-- the keys that it lists are the ones that its bytes list, if both stores are so
pub listed_after : (arrives : Descriptor → Bool) (nodes old_nodes : List Node) (entries old_entries : List Entry) → nodes ≡ nodes_of entries → old_nodes ≡ nodes_of old_entries → with_arriving arrives nodes old_nodes ≡ nodes_of (with_arriving arrives entries old_entries)
listed_after arrives nodes old_nodes entries old_entries listed listed_old =
    ap (λ (ns : List Node). ns ++ filter (λ (n : Node). arrives n.0) nodes) listed_old
    ∙ ap (λ (ns : List Node). nodes_of old_entries ++ filter (λ (n : Node). arrives n.0) ns) listed
    ∙ ap (λ (ns : List Node). nodes_of old_entries ++ ns) (sym (nodes_arriving arrives entries))
    ∙ sym (map-append node_of old_entries (filter (λ (e : Entry). arrives e.0) entries))
