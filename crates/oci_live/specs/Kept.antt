-- Invariants between the parts of a live store.
use Rattle.std.specs.Prelude.{◌≡◌, Bool, false, List, [], ◌∷◌, ◌++◌}
use Rattle.logbook.specs.Pages.{Book}
use Rattle.oci_store.specs.Content.{Entry}
use Rattle.oci_store.specs.Graph.{nodes_of}
use Rattle.oci_store.specs.Closed.{IsClosed}
use Rattle.oci_live.specs.History.{name_of}
use Rattle.oci_live.specs.Rule.{knows}
use Rattle.oci_live.specs.declared.shelf.Item.{Item}
use Rattle.oci_live.specs.declared.shelf.Shelf.{Shelf}
use Rattle.oci_live.specs.declared.rule.View.{View}

-- the publisher's view is the published list, which is closed and is the history that its witness
-- shows
pub record IsShown (v : View) (x : Shelf) : Type 0 where
  pub is : v ≡ knows (name_of x.witness.book) x.entries
  pub told : x.witness.log ≡ x.entries
  pub closed : IsClosed (nodes_of x.entries)

-- unless the store has halted, its whole history is published, and no item is waiting
pub record IsLive (v : View) (x : Shelf) (book : Book) (log : List Entry) (waiting : List Item) (is_halted : Bool) : Type 0 where
  pub shown : IsShown v x
  pub same : name_of book ≡ name_of x.witness.book
  pub whole : is_halted ≡ false → log ≡ x.entries
  pub nothing : is_halted ≡ false → waiting ≡ []

-- the second shelf is the first with one more entry
pub record Follows (x : Shelf) (e : Entry) (y : Shelf) : Type 0 where
  pub entries : y.entries ≡ x.entries ++ e ∷ []
  pub same : name_of y.witness.book ≡ name_of x.witness.book
