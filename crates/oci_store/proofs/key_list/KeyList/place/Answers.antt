use Rattle.std.proofs.Common.{◌≡◌, ℕ, List, [], ◌∷◌, ◌++◌, length, Some, None, sym, ap, subst, ◌∙◌, rules, arith}
use Rattle.std.proofs.lemmas.Grind.{common_steps}
use Rattle.std.specs.BTreeMap.{get, Updates}
use Rattle.std.specs.List.{slice_get}
use Rattle.oci_manifest.specs.Descriptor.{Descriptor, key_cmp}
use Rattle.oci_store.specs.KeyList.{IsIndexOf}
use Rattle.oci_store.specs.Visiting.{with_key}
use Rattle.oci_store.proofs.KeyLists.{with_key-there, with_key-new, IsIndexOf-push}
use Rattle.oci_store.proofs.Membership.{slice_get-push}
use Rattle.oci_store.proofs.key_list.KeyList.place.Goals as goal

pub returns-in-Some-clause-keys : goal.returns-in-Some-clause-keys
returns-in-Some-clause-keys c =
    let found : get key_cmp c.self.inside.index c.args.key.now ≡ Some c.in-Some.place.now = sym c.in-Some.ensures.value in
    subst (λ (ks : List Descriptor). ks ≡ with_key ks c.args.key.now) c.self.view_is (with_key-there c.self.inside.index c.self.inside.keys.items c.args.key.now c.in-Some.place.now c.self.invariant found)

pub invariant_of-self-in-Ok : goal.invariant_of-self-in-Ok
invariant_of-self-in-Ok c =
    let none : get key_cmp c.self.inside.index c.args.key.now ≡ None = sym c.in_default.ensures.value in
    let pushed : c.push.new.self.items ≡ c.self.inside.keys.items ++ c.args.key.now ∷ [] = c.in_ok-push.ensures.items ∙ ap (λ (k : Descriptor). c.self.inside.keys.items ++ k ∷ []) c.in_ok-try_clone.ensures in
    let placed : c.len-place.result ≡ length c.self.inside.keys.items = search rules in
    let at_key = subst (λ (k : Descriptor). Updates key_cmp c.self.inside.index c.insert.new.self k (Some c.len-place.result)) c.in_ok-copy.ensures c.in-Ok.ensures.updates in
    let at_end = subst (λ (n : ℕ). Updates key_cmp c.self.inside.index c.insert.new.self c.args.key.now (Some n)) placed at_key in
    subst (λ (ks : List Descriptor). IsIndexOf c.insert.new.self ks) (sym pushed) (IsIndexOf-push c.self.inside.index c.insert.new.self c.self.inside.keys.items c.args.key.now c.self.invariant none at_end)

pub returns-in-Ok-clause-keys : goal.returns-in-Ok-clause-keys
returns-in-Ok-clause-keys c =
    let none : get key_cmp c.self.inside.index c.args.key.now ≡ None = sym c.in_default.ensures.value in
    let pushed : c.push.new.self.items ≡ c.self.inside.keys.items ++ c.args.key.now ∷ [] = c.in_ok-push.ensures.items ∙ ap (λ (k : Descriptor). c.self.inside.keys.items ++ k ∷ []) c.in_ok-try_clone.ensures in
    pushed ∙ subst (λ (ks : List Descriptor). c.self.inside.keys.items ++ c.args.key.now ∷ [] ≡ with_key ks c.args.key.now) c.self.view_is (with_key-new c.self.inside.index c.self.inside.keys.items c.args.key.now c.self.invariant none)

pub returns-in-Ok-clause-place : goal.returns-in-Ok-clause-place
returns-in-Ok-clause-place c =
    let pushed : c.push.new.self.items ≡ c.self.inside.keys.items ++ c.args.key.now ∷ [] = c.in_ok-push.ensures.items ∙ ap (λ (k : Descriptor). c.self.inside.keys.items ++ k ∷ []) c.in_ok-try_clone.ensures in
    let placed : c.len-place.result ≡ length c.self.inside.keys.items = search rules in
    subst (λ (n : ℕ). slice_get c.push.new.self.items n ≡ Some c.args.key.now) (sym placed) (subst (λ (ks : List Descriptor). slice_get ks (length c.self.inside.keys.items) ≡ Some c.args.key.now) (sym pushed) (slice_get-push c.self.inside.keys.items c.args.key.now))

pub invariant_of-self-in-Err : goal.invariant_of-self-in-Err
invariant_of-self-in-Err c =
    let keys : c.pop.new.self.items ≡ c.self.inside.keys.items = grind (arith, common_steps) in
    rw (c.in-Err.ensures.err, keys) c.self.invariant
