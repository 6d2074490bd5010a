-- Each step keeps the rule.
use Rattle.std.proofs.Common.{◌≡◌, ◌≢◌, ℕ, true≢false, List, [], ◌∷◌, ◌++◌, set, refl, sym, ◌∙◌, subst, ⊎_elim}
use mathlib.Core.Option.{some}
use mathlib.Core.List.{IsPrefix}
use lib.ListN.{get_elem?}
use Rattle.crossbeam_utils.specs.Register.{Admits, Turns, TurnsAt, Forks, Merges}
use Rattle.atomic_table.proofs.Lists.{at_set, at_snoc}
use Rattle.oci_store.specs.Content.{Entry}
use Rattle.oci_store.specs.Graph.{nodes_of}
use Rattle.oci_store.specs.Closed.{IsClosed}
use Rattle.oci_live.specs.declared.shelf.Shelf.{Shelf}
use Rattle.oci_live.specs.declared.rule.View.{View}
use Rattle.oci_live.specs.History.{name_of}
use Rattle.oci_live.specs.Rule.{knows, newcomer, Knows, IsPublished, Shows}
use Rattle.oci_live.proofs.Prefixes.{prefix_self, prefix_trans}

abbrev Each : Shelf → List View → Type 0
Each x views = (seat : ℕ) (v : View) → get_elem? views seat ≡ some v → Knows v x

each_set : (x : Shelf) (views : List View) (seat : ℕ) (w : View) → Knows w x → Each x views → Each x (set views seat w)
each_set x views seat w mine h j u e =
    ⊎_elim (λ (t : (j ≡ seat) × (w ≡ u)). subst (λ (z : View). Knows z x) t.1 mine) (λ (t : (j ≢ seat) × (get_elem? views j ≡ some u)). h j u t.1) (at_set views seat j w u e)

each_snoc : (x : Shelf) (views : List View) (w : View) → Knows w x → Each x views → Each x (views ++ w ∷ [])
each_snoc x views w mine h j u e = ⊎_elim (h j u) (λ (t : w ≡ u). subst (λ (z : View). Knows z x) t mine) (at_snoc views w u j e)

nobody : (x : Shelf) → Knows newcomer x
nobody x = record { name = λ k. absurd (true≢false (sym k)); seen = λ k. absurd (true≢false (sym k)) }

-- nobody knows anything of the first shelf
pub begins : (x : Shelf) → x.witness.log ≡ x.entries → IsClosed (nodes_of x.entries) → IsPublished x (newcomer ∷ [])
begins x told closed = record { told = told; closed = closed; each = each_snoc x [] newcomer (nobody x) (λ j u e. absurd cc) }

-- the published list becomes one that it begins, of the same store
pub turns : (seat : ℕ) (v : View) (x y : Shelf) → name_of y.witness.book ≡ name_of x.witness.book → IsPrefix x.entries y.entries → (x.witness.log ≡ x.entries → y.witness.log ≡ y.entries) → (IsClosed (nodes_of x.entries) → IsClosed (nodes_of y.entries)) → TurnsAt IsPublished seat v x y Shows
turns seat v x y same grows told closed views kept at =
    let now : Each y views = λ j u e. let k = kept.each j u e in record { name = λ i. k.name i ∙ sym same; seen = λ i. prefix_trans u.list x.entries y.entries (k.seen i) grows } in
    let w = knows (name_of y.witness.book) y.entries in (
      w,
      record { told = told kept.told; closed = closed kept.closed; each = each_set y views seat w (record { name = λ _. refl; seen = λ _. prefix_self y.entries }) now },
      record { is = refl; told = told kept.told; closed = closed kept.closed; before = now seat v at },
    )

pub enters : (seat : ℕ) (v : View) → Turns IsPublished seat v (λ x. x) Shows
enters seat v x = turns seat v x x refl (prefix_self x.entries) (λ h. h) (λ h. h)

pub admits : Admits IsPublished newcomer
admits x views kept = record { told = kept.told; closed = kept.closed; each = each_snoc x views newcomer (nobody x) kept.each }

pub forks : (seat : ℕ) (v : View) → Forks IsPublished seat v v v
forks seat v x views kept at = let k = kept.each seat v at in record { told = kept.told; closed = kept.closed; each = each_snoc x (set views seat v) v k (each_set x views seat v k kept.each) }

pub merges : (seat : ℕ) (v : View) (other : ℕ) (w : View) → Merges IsPublished seat v other w w newcomer
merges seat v other w x views kept at apart there =
    let theirs : Knows w x = ⊎_elim (λ (t : (other ≡ seat) × (w ≡ w)). absurd (apart t.0)) (λ (t : (other ≢ seat) × (get_elem? views other ≡ some w)). kept.each other w t.1) (at_set views seat other w w there) in
    record { told = kept.told; closed = kept.closed; each = each_set x (set views seat w) other newcomer (nobody x) (each_set x views seat w theirs kept.each) }

-- one entry more
pub grows : (seat : ℕ) (v : View) (x y : Shelf) (e : Entry) (log : List Entry) → y.entries ≡ x.entries ++ e ∷ [] → y.witness.log ≡ log → log ≡ x.entries ++ e ∷ [] → name_of y.witness.book ≡ name_of x.witness.book → IsClosed (nodes_of (x.entries ++ e ∷ []))
    → TurnsAt IsPublished seat v x y Shows
grows seat v x y e log is has told same closed = turns seat v x y same (e ∷ [], sym is) (λ _. has ∙ told ∙ sym is) (λ h. subst (λ (l : List Entry). IsClosed (nodes_of l)) (sym is) closed)

-- the same list, of the same store
pub stays : (seat : ℕ) (v : View) (x y : Shelf) → y.entries ≡ x.entries → y.witness.log ≡ x.witness.log → name_of y.witness.book ≡ name_of x.witness.book → TurnsAt IsPublished seat v x y Shows
stays seat v x y is log same = turns seat v x y same (subst (λ (l : List Entry). IsPrefix x.entries l) (sym is) (prefix_self x.entries)) (λ t. log ∙ t ∙ sym is) (λ h. subst (λ (l : List Entry). IsClosed (nodes_of l)) (sym is) h)
