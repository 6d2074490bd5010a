use Rattle.std.proofs.Common.{◌≡◌, ◌++◌, ◌∷◌, [], List, None, Some, sym, ap, subst, ◌∙◌}
use Rattle.std.specs.BTreeMap.{Updates, get}
use Rattle.std.specs.Option.{option_copied_mut}
use Rattle.oci_manifest.specs.Descriptor.{Descriptor, key_cmp}
use Rattle.oci_store.specs.Predecessors.{PredecessorLists}
use Rattle.oci_store.proofs.Predecessors.{noted, unchanged, has_predecessor, on_err, is_there}
use Rattle.oci_store.proofs.graph.predecessors.Predecessors.add_to.Goals as goal

pub returns-in_err-put-clause-refused : goal.returns-in_err-put-clause-refused
returns-in_err-put-clause-refused c =
    let lists = c.args.self.now.lists in
    let keys = c.in-Some.keys.now in
    let was : get key_cmp lists c.args.listed.now ≡ Some keys = sym c.get_mut.ensures.value ∙ ap option_copied_mut c.in-Some.is in
    let updates = (c.get_mut.follows.holds c.put.new.keys).3 (is_there (get key_cmp lists c.args.listed.now) keys was) in
    on_err c.from_residual-in_err-put.result _ (unchanged lists (c.get_mut.follows.lender c.put.new.keys) c.args.listed.now keys c.put.new.keys updates was c.in_err-put.ensures.refused)

pub returns-in-Some-clause-noted : goal.returns-in-Some-clause-noted
returns-in-Some-clause-noted c =
    let lists = c.args.self.now.lists in
    let keys = c.in-Some.keys.now in
    let more = c.put.new.keys in
    let was : get key_cmp lists c.args.listed.now ≡ Some keys = sym c.get_mut.ensures.value ∙ ap option_copied_mut c.in-Some.is in
    let updates = (c.get_mut.follows.holds more).3 (is_there (get key_cmp lists c.args.listed.now) keys was) in
    noted lists (c.get_mut.follows.lender more) c.args.predecessor.now c.args.listed.now keys.items more updates (λ other. ap (has_predecessor other) was)
    (subst (λ (k : Descriptor). more.items ≡ keys.items ++ k ∷ []) c.in_ok-predecessor.ensures c.in_ok-put.ensures.put)

pub returns-clause-noted : goal.returns-clause-noted
returns-clause-noted c =
    let lists = c.args.self.now.lists in
    let more = c.put-2.new.keys in
    let none : get key_cmp lists c.args.listed.now ≡ None = sym c.get_mut.ensures.value ∙ ap option_copied_mut c.in_default.is in
    let same = subst (λ (old : PredecessorLists). Updates key_cmp old c.insert.new.self c.in_ok-try_clone.field-0 (Some more)) c.get_mut.follows.holds-at-none c.in_ok-insert.ensures.updates in
    let updates = subst (λ (k : Descriptor). Updates key_cmp lists c.insert.new.self k (Some more)) c.in_ok-try_clone.ensures same in
    let grown : more.items ≡ [] ++ c.in_ok-predecessor.predecessor ∷ [] = c.in_ok-put-2.ensures.put ∙ ap (λ (ks : List Descriptor). ks ++ c.in_ok-predecessor.predecessor ∷ []) c.new-keys.ensures.items in
    noted lists c.insert.new.self c.args.predecessor.now c.args.listed.now [] more updates (λ other. ap (has_predecessor other) none)
    (subst (λ (k : Descriptor). more.items ≡ [] ++ k ∷ []) c.in_ok-predecessor.ensures grown)
