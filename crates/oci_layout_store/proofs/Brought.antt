-- Entries with another name, and the entries that stay and come when some are brought.
use Rattle.std.proofs.Common.{◌≡◌, ◌≤◌, ℕ, Bool, true, false, cond, not, inl, inr, List, [], ◌∷◌, ◌++◌, ◌||◌, length, drop, map, filter, codes, Option, Some, None, option_map, Ordering, Less, Equal, Greater, nat_cmp, refl, sym, ap, subst, ◌∙◌, arith}
use Rattle.std.specs.Prelude.{◌↔◌, Contains, option_and_then}
use Rattle.std.specs.BTreeSet.{BTreeSet, contains}
use Rattle.std.specs.Cmp.Lexicographic.{slice_cmp}
use Rattle.std.specs.List.{All}
use Rattle.std.specs.Option.{option_map_or, unwrap_or}
use Rattle.std.specs.Ordering.{is_eq, match_ordering}
use Rattle.std.specs.Str.{bytes_eq}
use Rattle.std.proofs.lemmas.Bool.{cases_Bool}
use Rattle.std.proofs.lemmas.List.{append-nil, drop_all, map-append}
use Rattle.std.proofs.lemmas.List.Elements.{All-head, All-tail, All-nil, All-cons, All-append, All-filter, filter-append}
use Rattle.std.proofs.lemmas.Map.Text.{is_eq-slice_cmp}
use Rattle.std.proofs.lemmas.Slice.Eq.{bytes_eq-Decides}
use Rattle.serde_json.specs.Data.{Data, null, boolean, number, string, array, object, unsigned, Members, no_members, member, put, depth, members_depth}
use Rattle.serde_json.specs.Find.{get, get_member, as_str}
use Rattle.serde_json.specs.declared.value.Value.{Value}
use Rattle.serde_json.proofs.Views.{get_member-put, get_member-put_other}
use Rattle.oci_dir.specs.Device.{File}
use Rattle.oci_manifest.specs.Descriptor.{Descriptor, is_among, key_cmp}
use Rattle.oci_manifest.specs.Reading.{descriptor_of}
use Rattle.oci_store.proofs.Membership.{Contains-from_among, among_from_Contains}
use Rattle.oci_layout_store.specs.Brought.{annotations_of, comes, coming, is_free, stating, value_stating, with_annotations, with_name, IsShallowEntry}
use Rattle.oci_layout_store.specs.Entries.{IndexEntry, content_of, entry_of, name_of, object_members, without_member, IsShallow}
use Rattle.oci_layout_store.specs.Law.{IsMeant}
use Rattle.oci_layout_store.specs.Meant.{meant}
use Rattle.oci_layout_store.specs.Saved.{no_name, unnamed_keys}
use Rattle.oci_layout_store.specs.declared.index.IndexEntry.{IndexEntry as CodeEntry}
use Rattle.oci_layout_store.proofs.Members.{AtMost, get-depth, members_depth-put, members_depth-without, object_members-depth}

-- ---- an entry with another name is not nested more deeply

members-at_most : (o : Option Data) → AtMost depth 124 o → members_depth (object_members (unwrap_or o null)) ≤ 123
members-at_most None h = omega arith
members-at_most (Some d) h = object_members-depth d 123 h

with_name-depth : (name : Option (List ℕ)) (annotations : Members) → members_depth annotations ≤ 123 → members_depth (with_name name annotations) ≤ 123
unfolding with_name
with_name-depth None annotations h = members_depth-without (codes "org.opencontainers.image.ref.name") annotations 123 h
with_name-depth (Some name) annotations h = members_depth-put (codes "org.opencontainers.image.ref.name") (string name) annotations 123 (omega arith) h

pub shallow_with : (name : Option (List ℕ)) (d : Data) → depth d ≤ 125 → depth (with_annotations d (with_name name (annotations_of d))) ≤ 125
unfolding with_annotations annotations_of
shallow_with name d h =
    let annotations = with_name-depth name (annotations_of d) (members-at_most (get (codes "annotations") d) (get-depth (codes "annotations") d 124 h)) in
    omega (arith, members_depth-put (codes "annotations") (object (with_name name (annotations_of d))) (object_members d) 124 (omega (arith, annotations)) (object_members-depth d 124 h))

-- ---- nor is one that states its key

value_stating-depth : (k : Descriptor) (d : Data) → depth d ≤ 125 → depth (value_stating k d) ≤ 125
unfolding value_stating
value_stating-depth k d h =
    let size = members_depth-put (codes "size") (number (unsigned k.size)) (object_members d) 124 (omega arith) (object_members-depth d 124 h) in
    omega (arith, members_depth-put (codes "mediaType") (string k.media_type) (put (codes "size") (number (unsigned k.size)) (object_members d)) 124 (omega arith) size)

stating-depth : (key : Option Descriptor) (d : Data) → depth d ≤ 125 → depth (option_map_or (λ k. value_stating k d) key d) ≤ 125
stating-depth None d h = h
stating-depth (Some k) d h = value_stating-depth k d h

pub all_stating : (es : List IndexEntry) → All IsShallowEntry es → All IsShallowEntry (map stating es)
all_stating [] are = All-nil IsShallowEntry
all_stating (e ∷ es) are =
    All-cons IsShallowEntry (stating e) (map stating es) (stating-depth e.key e.value (All-head IsShallowEntry e es are)) (all_stating es (All-tail IsShallowEntry e es are))

-- ---- an entry with another name says what it is

skip_by : (o : Ordering) (r s : Option Data) → is_eq o ≡ false → match_ordering o r s r ≡ r
skip_by Less r s h = refl
skip_by Equal r s h = cc h
skip_by Greater r s h = refl

not_there : (k : List ℕ) (ms : Members) → get_member k (without_member k ms) ≡ None
not_there k no_members = refl
not_there k (member l e ms) =
    elim (cases_Bool (bytes_eq k l)) [
      | inl same ↦ rw same (not_there k ms)
      | inr apart ↦ rw apart (skip_by (slice_cmp nat_cmp k l) (get_member k (without_member k ms)) (Some e) (is_eq-slice_cmp k l ∙ apart) ∙ not_there k ms)
    ]

-- other members stay
kept_in : (q : List ℕ) (d : Data) (value : Data) → (q ≡ codes "annotations" → ⊥) → get_member q (put (codes "annotations") value (object_members d)) ≡ get q d
kept_in q null value apart = get_member-put_other q (codes "annotations") value no_members apart
kept_in q (boolean b) value apart = get_member-put_other q (codes "annotations") value no_members apart
kept_in q (number n) value apart = get_member-put_other q (codes "annotations") value no_members apart
kept_in q (string s) value apart = get_member-put_other q (codes "annotations") value no_members apart
kept_in q (array ds) value apart = get_member-put_other q (codes "annotations") value no_members apart
kept_in q (object ms) value apart = get_member-put_other q (codes "annotations") value ms apart

member_stays : (q : List ℕ) (d : Data) (annotations : Members) → bytes_eq q (codes "annotations") ≡ false → get q (with_annotations d annotations) ≡ get q d
unfolding with_annotations
member_stays q d annotations apart = kept_in q d (object annotations) (λ same. cc (apart, (bytes_eq-Decides q (codes "annotations")).1 same))

descriptor_stays : (d : Data) (annotations : Members) → descriptor_of (with_annotations d annotations) ≡ descriptor_of d
unfolding descriptor_of
descriptor_stays d annotations =
    let media_type = member_stays (codes "mediaType") d annotations refl in
    let digest = member_stays (codes "digest") d annotations refl in
    let size = member_stays (codes "size") d annotations refl in
    rw (media_type, digest, size) refl

annotations_there : (d : Data) (annotations : Members) → get (codes "annotations") (with_annotations d annotations) ≡ Some (object annotations)
unfolding with_annotations
annotations_there d annotations = get_member-put (codes "annotations") (object annotations) (object_members d)

name_found : (name : Option (List ℕ)) (annotations : Members) → option_and_then as_str (get_member (codes "org.opencontainers.image.ref.name") (with_name name annotations)) ≡ name
unfolding with_name
name_found None annotations = ap (option_and_then as_str) (not_there (codes "org.opencontainers.image.ref.name") annotations)
name_found (Some name) annotations = ap (option_and_then as_str) (get_member-put (codes "org.opencontainers.image.ref.name") (string name) annotations)

name_set : (name : Option (List ℕ)) (d : Data) (annotations : Members) → name_of (with_annotations d (with_name name annotations)) ≡ name
unfolding name_of
name_set name d annotations = rw (annotations_there d (with_name name annotations)) (name_found name annotations)

pub meant_with : (file : File) (name : Option (List ℕ)) (e : IndexEntry) → IsMeant file e → IsMeant file (record { key = e.key; name = name; value = with_annotations e.value (with_name name (annotations_of e.value)) })
meant_with file name e h = record {
  key_is = ap (option_map (meant file)) (descriptor_stays e.value (with_name name (annotations_of e.value))) ∙ h.key_is;
  name_is = name_set name e.value (annotations_of e.value);
}

-- ---- the entries that stay and come

-- a filter of the entries of the code, with the next one
pub filter_next : (test : IndexEntry → Bool) (es : List CodeEntry) (e : CodeEntry) → filter test (map entry_of (es ++ e ∷ [])) ≡ filter test (map entry_of es) ++ cond (test (entry_of e)) (entry_of e ∷ []) []
filter_next test es e = ap (filter test) (map-append entry_of es (e ∷ [])) ∙ filter-append test (map entry_of es) (entry_of e ∷ [])

pub filter_as : {X : Type 0} (p q : X → Bool) → ((x : X) → p x ≡ q x) → (xs : List X) → filter p xs ≡ filter q xs
filter_as {X = X} p q same [] = refl
filter_as {X = X} p q same (x ∷ xs) = ap (λ (b : Bool). cond b (x ∷ filter p xs) (filter p xs)) (same x) ∙ ap (λ (rest : List X). cond (q x) (x ∷ rest) rest) (filter_as p q same xs)

same_bool : (a b : Bool) → (a ≡ true) ↔ (b ≡ true) → a ≡ b
same_bool true b h = sym (h.0 refl)
same_bool false true h = cc (h.1 refl)
same_bool false false h = refl

-- a set of just the keys of a list
set_is : (set : BTreeSet Descriptor) (keys : List Descriptor) → ((k : Descriptor) → (contains key_cmp set k ≡ true) ↔ Contains keys k) → (k : Descriptor) → contains key_cmp set k ≡ is_among keys k
set_is set keys h k =
    same_bool (contains key_cmp set k) (is_among keys k) ((λ there. among_from_Contains keys k ((h k).0 there)), (λ there. (h k).1 (Contains-from_among keys k there)))

free_by : (tagged unnamed : BTreeSet Descriptor) (keys old : List Descriptor) → ((k : Descriptor) → contains key_cmp tagged k ≡ is_among keys k) → ((k : Descriptor) → contains key_cmp unnamed k ≡ is_among old k)
    → (key : Option Descriptor) → is_free (contains key_cmp tagged) (contains key_cmp unnamed) key ≡ is_free (is_among keys) (is_among old) key
free_by tagged unnamed keys old is_tagged is_unnamed None = refl
free_by tagged unnamed keys old is_tagged is_unnamed (Some k) = rw (is_tagged k, is_unnamed k) refl

pub coming_by : (tagged unnamed : BTreeSet Descriptor) (keys : List Descriptor) (old entries : List IndexEntry) → ((k : Descriptor) → (contains key_cmp tagged k ≡ true) ↔ Contains keys k)
    → ((k : Descriptor) → (contains key_cmp unnamed k ≡ true) ↔ Contains (unnamed_keys old) k) → map stating (filter (comes (contains key_cmp tagged) (contains key_cmp unnamed)) entries) ≡ coming keys old entries
coming_by tagged unnamed keys old entries is_tagged is_unnamed =
    ap (map stating) (filter_as (comes (contains key_cmp tagged) (contains key_cmp unnamed)) (comes (is_among keys) (is_among (unnamed_keys old)))
    (λ e. ap (λ (b : Bool). not (no_name e.name) || b) (free_by tagged unnamed keys (unnamed_keys old) (set_is tagged keys is_tagged) (set_is unnamed (unnamed_keys old) is_unnamed) e.key)) entries)

-- at the end of a loop nothing is left
pub all_found : (test : IndexEntry → Bool) (es : List CodeEntry) (i : ℕ) (found all : List IndexEntry) → length es ≤ i → found ++ map stating (filter test (map entry_of (drop i es))) ≡ all → found ≡ all
all_found test es i found all past h =
    let none : found ++ [] ≡ all = subst (λ (rest : List CodeEntry). found ++ map stating (filter test (map entry_of rest)) ≡ all) (drop_all i es past) h in
    sym (append-nil found) ∙ none

-- the absent keys that stay absent, by sets of the keys
pub still_by : (stay listed : BTreeSet Descriptor) (staying all absent : List Descriptor) → ((k : Descriptor) → contains key_cmp stay k ≡ is_among staying k)
    → ((k : Descriptor) → contains key_cmp listed k ≡ is_among all k) → filter (λ k. contains key_cmp stay k || not (contains key_cmp listed k)) absent ≡ filter (λ k. is_among staying k || not (is_among all k)) absent
still_by stay listed staying all absent is_staying is_listed =
    filter_as (λ k. contains key_cmp stay k || not (contains key_cmp listed k)) (λ k. is_among staying k || not (is_among all k)) (λ k. rw (is_staying k, is_listed k) refl) absent

-- entries of which some stay and some come are not nested too deeply if all were not
pub shallow_joined : (test : IndexEntry → Bool) (old stay more new : List CodeEntry) (members : Value) → IsShallow (content_of old members) → map entry_of stay ≡ filter test (map entry_of old)
    → All IsShallowEntry (map entry_of more) → new ≡ stay ++ more → IsShallow (content_of new members)
shallow_joined test old stay more new members shallow is_stay come is_new = record {
  entries =
      let stays : All IsShallowEntry (map entry_of stay) = subst (All IsShallowEntry) (sym is_stay) (All-filter test IsShallowEntry (map entry_of old) shallow.entries) in
      subst (All IsShallowEntry) (sym (ap (map entry_of) is_new ∙ map-append entry_of stay more)) (All-append IsShallowEntry (map entry_of stay) (map entry_of more) stays come);
  members = shallow.members;
}
