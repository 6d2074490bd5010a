-- The rule for the published entries: an invariant of every publication and every look.
use Rattle.std.specs.Prelude.{◌≡◌, ℕ, true, false, List, []}
use mathlib.Core.Option.{some}
use mathlib.Core.List.{IsPrefix}
use lib.ListN.{get_elem?}
use Rattle.oci_store.specs.Content.{Entry}
use Rattle.oci_store.specs.Graph.{nodes_of}
use Rattle.oci_store.specs.Closed.{IsClosed}
use Rattle.oci_live.specs.History.{name_of}
use Rattle.oci_live.specs.declared.shelf.Shelf.{Shelf}
use Rattle.oci_live.specs.declared.rule.View.{View}

-- the view of a seat that has seen this list of this store
abbrev pub knows : List ℕ → List Entry → View
knows n l = record { is_told = true; name = n; list = l }

-- the view of a seat that has seen nothing
abbrev pub newcomer : View
newcomer = record { is_told = false; name = []; list = [] }

-- the seat has seen a list of the store of this name
pub record IsTold (v : View) (n : List ℕ) : Type 0 where
  pub told : v.is_told ≡ true
  pub name : v.name ≡ n

-- the knowledge of a seat holds for the shelf
pub record Knows (v : View) (x : Shelf) : Type 0 where
  pub name : v.is_told ≡ true → v.name ≡ name_of x.witness.book
  pub seen : v.is_told ≡ true → IsPrefix v.list x.entries

-- the published entries are closed, and are the history that their witness shows; they begin with
-- the list that each seat has seen
pub record IsPublished (x : Shelf) (views : List View) : Type 0 where
  pub told : x.witness.log ≡ x.entries
  pub closed : IsClosed (nodes_of x.entries)
  pub each : (seat : ℕ) (v : View) → get_elem? views seat ≡ some v → Knows v x

-- one step of a seat with the view v: afterwards it has seen the list of y, which begins with the
-- list that it knew
pub record Shows (v : View) (x y : Shelf) (w : View) : Type 0 where
  pub is : w ≡ knows (name_of y.witness.book) y.entries
  pub told : y.witness.log ≡ y.entries
  pub closed : IsClosed (nodes_of y.entries)
  pub before : Knows v y
