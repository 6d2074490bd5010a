use Rattle.std.proofs.Common.{◌≡◌, ℕ, ◌++◌, ◌∷◌, [], List, None, Some, string_bytes, sym, ap, subst, ◌∙◌}
use Rattle.std.specs.BTreeMap.{get_by_text}
use Rattle.std.specs.Map.{update}
use Rattle.std.specs.Option.{option_copied_mut}
use Rattle.std.specs.Str.{bytes_eq}
use Rattle.std.proofs.lemmas.Map.Text.{btree_map_updates_text}
use Rattle.oci_manifest.specs.Descriptor.{Descriptor}
use Rattle.oci_store.proofs.Predecessors.{is_there}
use Rattle.oci_prune.specs.Attached.{Followers}
use Rattle.oci_prune.proofs.Following.{keys_at, stem_added}
use Rattle.oci_prune.proofs.followers.add_follower.Goals as goal

pub returns-in-Some : goal.returns-in-Some
returns-in-Some c =
    let map = c.args.followers.now in
    let text = c.args.stem.now in
    let keys = c.in-Some.keys.now in
    let more = c.put.new.keys in
    let was : get_by_text map text ≡ Some keys = sym c.get_mut.ensures.value ∙ ap option_copied_mut c.in-Some.is in
    let updates = (c.get_mut.follows.holds more).3 (is_there (get_by_text map text) keys was) in
    stem_added map (c.get_mut.follows.lender more) c.args.key.now text keys.items more (btree_map_updates_text text map (c.get_mut.follows.lender more) (Some more) updates) (ap keys_at was)
    (subst (λ (k : Descriptor). more.items ≡ keys.items ++ k ∷ []) c.in_ok-key.ensures c.in_ok-put.ensures)

pub returns : goal.returns
returns c =
    let map = c.args.followers.now in
    let text = c.args.stem.now in
    let more = c.put-2.new.keys in
    let none : get_by_text map text ≡ None = sym c.get_mut.ensures.value ∙ ap option_copied_mut c.in_default.is in
    let grown : more.items ≡ [] ++ c.in_ok-key.key ∷ [] = c.in_ok-put-2.ensures ∙ ap (λ (ks : List Descriptor). ks ++ c.in_ok-key.key ∷ []) c.new-keys.ensures.items in
    let same : string_bytes c.in_ok-stem.stem ≡ text = c.in_ok-stem.ensures.ok in
    let at_none = subst (λ (m : Followers). (now : List ℕ) → get_by_text c.insert.new.self now ≡ update bytes_eq (get_by_text m) (string_bytes c.in_ok-stem.stem) (Some more) now) c.get_mut.follows.holds-at-none
    (btree_map_updates_text (string_bytes c.in_ok-stem.stem) c.get_mut.follows.lender-at-none c.insert.new.self (Some more) c.in_ok-insert.ensures.updates) in
    let updates = subst (λ (t : List ℕ). (now : List ℕ) → get_by_text c.insert.new.self now ≡ update bytes_eq (get_by_text map) t (Some more) now) same at_none in
    stem_added map c.insert.new.self c.args.key.now text [] more updates (ap keys_at none) (subst (λ (k : Descriptor). more.items ≡ [] ++ k ∷ []) c.in_ok-key.ensures grown)
