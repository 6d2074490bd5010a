-- How deep an index nests: the one that was read, and the one that is written of it.
use Rattle.std.proofs.Common.{◌≡◌, ◌≤◌, ℕ, Bool, inl, inr, lit≤, List, [], ◌∷◌, map, codes, Option, Some, None, Ok, sym, subst, arith}
use Rattle.std.proofs.lemmas.Bool.{cases_Bool}
use Rattle.std.proofs.lemmas.List.Elements.{All-head, All-tail, All-nil, All-cons}
use Rattle.std.proofs.Math.Nat.{max-le}
use Rattle.std.specs.List.{All}
use Rattle.std.specs.Str.{is_utf8}
use Rattle.serde_json.specs.Data.{Data, null, boolean, string, array, object, number, Items, no_items, item, Members, depth, items_depth, members_depth}
use Rattle.serde_json.specs.Find.{get}
use Rattle.serde_json.specs.Read.{read}
use Rattle.serde_json.specs.View.{items_of}
use Rattle.serde_json.proofs.Nesting.{depth-read}
use Rattle.oci_manifest.specs.Descriptor.{Descriptor}
use Rattle.oci_manifest.specs.Fault.{Fault}
use Rattle.oci_manifest.specs.Manifest.{present}
use Rattle.oci_manifest.specs.Reading.{reading, or_fault}
use Rattle.oci_layout_store.specs.Entries.{IndexEntry, IndexContent, IsShallow, key_members, named_value, new_entry, elements_of, entries_in, entry_of_value, index_elements, index_entries, object_members, without_member, no_content}
use Rattle.oci_layout_store.specs.Index.{index_value}
use Rattle.oci_layout_store.proofs.Read.{read_elements}
use Rattle.oci_layout_store.proofs.Members.{AtMost, get-depth, members_depth-put, members_depth-without, object_members-depth}

abbrev pub IsShallowEntry : IndexEntry → Type 0
IsShallowEntry e = depth e.value ≤ 125

-- ---- what is written

pub depth-named : (k : Descriptor) (name : Option (List ℕ)) → depth (named_value k name) ≤ 2
unfolding named_value key_members
depth-named k None = lit≤ tt
depth-named k (Some name) = lit≤ tt

pub shallow-new : (k : Descriptor) (name : Option (List ℕ)) → IsShallowEntry (new_entry k name)
shallow-new k name = let few = depth-named k name in omega (arith, few)

depth_in : (entries : List IndexEntry) → All IsShallowEntry entries → items_depth (items_of (map (λ (e : IndexEntry). e.value) entries)) ≤ 125
depth_in [] h = omega arith
depth_in (e ∷ entries) h = max-le (All-head IsShallowEntry e entries h) (depth_in entries (All-tail IsShallowEntry e entries h))

one_more : (ms : Members) → members_depth ms ≤ 126 → depth (object ms) ≤ 127
one_more ms h = omega (arith, h)

list_depth : (ds : Items) → items_depth ds ≤ 125 → depth (array ds) ≤ 126
list_depth ds h = omega (arith, h)

pub depth-index : (content : IndexContent) → IsShallow content → depth (index_value content) ≤ 127
unfolding index_value
depth-index content shallow =
    one_more _
    (members_depth-put _ _ _ 126 (list_depth _ (depth_in content.entries shallow.entries))
    (members_depth-put _ _ _ 126 (lit≤ tt) (members_depth-put _ _ _ 126 (lit≤ tt) shallow.members)))

-- ---- what is read

pub utf8_read : (bytes : List ℕ) (value : Data) → reading bytes ≡ Some value → read bytes ≡ Some value
utf8_read bytes value h = elim (cases_Bool (is_utf8 bytes)) [ inl utf8 ↦ rw utf8 at h | inr other ↦ cc (rw other at h) ]

pub or_fault-Ok : {A : Type 0} (e : Fault) (o : Option A) (x : A) → or_fault e o ≡ Ok x → o ≡ Some x
or_fault-Ok e None x h = cc h
or_fault-Ok e (Some y) x h = cc h

nothing_in : (ds : Items) → no_items ≡ ds → items_depth ds ≤ 125
nothing_in ds is =
    let none : items_depth no_items ≤ 125 = omega arith in
    subst (λ (xs : Items). items_depth xs ≤ 125) is none

-- the elements of a member nest less deep than the member
elements_in_depth : (o : Option Data) (ds : Items) → AtMost depth 126 o → elements_of (present o) ≡ Ok ds → items_depth ds ≤ 125
unfolding elements_of
elements_in_depth None ds h is = nothing_in ds (cc is)
elements_in_depth (Some null) ds h is = nothing_in ds (cc is)
elements_in_depth (Some (boolean b)) ds h is = cc is
elements_in_depth (Some (number n)) ds h is = cc is
elements_in_depth (Some (string s)) ds h is = cc is
elements_in_depth (Some (array es)) ds h is =
    let same : es ≡ ds = cc is in
    let deep : items_depth es ≤ 125 = omega (arith, h) in
    subst (λ (xs : Items). items_depth xs ≤ 125) same deep
elements_in_depth (Some (object ms)) ds h is = cc is

elements_depth : (d : Data) (ds : Items) → depth d ≤ 127 → index_elements d ≡ Ok ds → items_depth ds ≤ 125
unfolding index_elements
elements_depth null ds h is = cc is
elements_depth (boolean b) ds h is = cc is
elements_depth (number n) ds h is = cc is
elements_depth (string s) ds h is = cc is
elements_depth (array es) ds h is = cc is
elements_depth (object ms) ds h is = elements_in_depth (get (codes "manifests") (object ms)) ds (get-depth (codes "manifests") (object ms) 126 (omega (arith, h))) is

shallow_elements : (ds : Items) → items_depth ds ≤ 125 → All IsShallowEntry (entries_in ds)
shallow_elements no_items h = All-nil IsShallowEntry
shallow_elements (item d ds) h =
    let here : depth d ≤ 125 = omega (arith, h) in
    All-cons IsShallowEntry (entry_of_value d) (entries_in ds) here (shallow_elements ds (omega (arith, h)))

pub shallow-none : IsShallow no_content
shallow-none = record { entries = All-nil IsShallowEntry; members = lit≤ tt }

-- what was read of an index is shallow
pub shallow-parts : (as_is : Bool) (bytes : List ℕ) (value : Data) (entries : List IndexEntry) (ms : Members) → reading bytes ≡ Some value → index_entries as_is value ≡ Ok entries
    → ms ≡ without_member (codes "manifests") (object_members value) → IsShallow (record { entries = entries; members = ms })
shallow-parts as_is bytes value entries ms is listed own =
    let deep : depth value ≤ 127 = depth-read bytes value (utf8_read bytes value is) in
    let read = read_elements as_is value entries listed in
    record {
      entries = subst (All IsShallowEntry) (sym read.2) (shallow_elements read.0 (elements_depth value read.0 deep read.1));
      members = rw own (members_depth-without (codes "manifests") (object_members value) 126 (object_members-depth value 126 (omega (arith, deep))));
    }
