-- The members of an object: one is removed, and how deep those that are left nest.
use Rattle.std.proofs.Common.{◌≡◌, ◌≤◌, ℕ, suc, inl, inr, Bool, true, false, cond, List, [], ◌∷◌, Option, Some, None, option_map, codes, String, Global, BTreeMap, Ordering, Less, Equal, Greater, string_bytes, string_cmp, nat_cmp, bytes_eq, refl, sym, ap, subst, ◌∙◌, arith}
use Rattle.std.specs.Prelude.{⊤}
use Rattle.std.proofs.lemmas.Bool.{cases_Bool}
use Rattle.std.proofs.lemmas.Map.Text.{is_eq-slice_cmp}
use Rattle.std.proofs.lemmas.Slice.Eq.{bytes_eq-Decides}
use Rattle.std.specs.BTreeMap.{get_by, is_at}
use Rattle.std.specs.Cmp.Lexicographic.{slice_cmp}
use Rattle.std.specs.List.{AllByRecursion}
use Rattle.std.specs.List.Sorted.{IsStrictlySortedBy}
use Rattle.std.specs.Map.{keys_of, remove_entry}
use Rattle.std.specs.Ordering.{is_eq, match_ordering}
use Rattle.serde_json.specs.Data.{Data, null, boolean, number, string, array, object, Members, no_members, member, put, depth, members_depth}
use Rattle.serde_json.specs.Find.{get, get_member}
use Rattle.serde_json.specs.View.{view, members_view}
use Rattle.serde_json.specs.declared.value.Value.{Value, Object}
use Rattle.serde_json.proofs.Views.{view-Object, view-lookup}
use Rattle.oci_manifest.specs.Manifest.{present}
use Rattle.oci_layout_store.specs.Entries.{elements_of, index_elements, object_members, without_member}

abbrev Entry : Type 0
Entry = String Global × Value

-- ---- one is removed

abbrev is_named : List ℕ → String Global → Bool
is_named name s = is_at (λ (t : String Global). slice_cmp nat_cmp name (string_bytes t)) s

members_view-cond : (b : Bool) (x y : List Entry) → members_view (cond b x y) ≡ cond b (members_view x) (members_view y)
members_view-cond true x y = refl
members_view-cond false x y = refl

-- a name before all others is not among them
without_member-before : (name : List ℕ) (es : List Entry) → AllByRecursion (λ (s : String Global). slice_cmp nat_cmp name (string_bytes s) ≡ Less) (keys_of es) → without_member name (members_view es) ≡ members_view es
without_member-before name [] h = refl
without_member-before name (e ∷ es) h =
    let apart : bytes_eq name (string_bytes e.0) ≡ false = sym (is_eq-slice_cmp name (string_bytes e.0)) ∙ ap is_eq h.0 in
    rw apart (ap (member (string_bytes e.0) (view e.1)) (without_member-before name es h.1))

pub members_view-removed : (es : List Entry) (name : List ℕ) → IsStrictlySortedBy string_cmp (keys_of es) → members_view (remove_entry (is_named name) es) ≡ without_member name (members_view es)
unfolding IsStrictlySortedBy
members_view-removed [] name h = refl
members_view-removed (e ∷ es) name h =
    elim (cases_Bool (bytes_eq name (string_bytes e.0))) [
      | inl same ↦
          let before = subst (λ (n : List ℕ). AllByRecursion (λ (s : String Global). slice_cmp nat_cmp n (string_bytes s) ≡ Less) (keys_of es)) (sym ((bytes_eq-Decides name (string_bytes e.0)).0 same)) h.0 in
          members_view-cond (is_named name e.0) es _ ∙ rw (is_eq-slice_cmp name (string_bytes e.0), same) (sym (without_member-before name es before))
      | inr apart ↦
          members_view-cond (is_named name e.0) es _ ∙ rw (is_eq-slice_cmp name (string_bytes e.0), apart) (ap (member (string_bytes e.0) (view e.1)) (members_view-removed es name h.1))
    ]

-- the elements of an object's `manifests`, from the value that is removed
pub elements-removed : (m : BTreeMap (String Global) Value) (list : Option Value) → list ≡ get_by (λ (s : String Global). slice_cmp nat_cmp (codes "manifests") (string_bytes s)) m
    → index_elements (view (Object m)) ≡ elements_of (present (option_map view list))
unfolding index_elements
elements-removed m list is =
    ap index_elements (view-Object m) ∙ ap (λ (found : Option Data). elements_of (present found)) (sym (ap (option_map view) is ∙ view-lookup (codes "manifests") m.entries))

-- ---- how deep they nest

members_depth-by : (o : Ordering) (a b c : Members) (n : ℕ) → members_depth a ≤ n → members_depth b ≤ n → members_depth c ≤ n → members_depth (match_ordering o a b c) ≤ n
members_depth-by Less a b c n p q r = p
members_depth-by Equal a b c n p q r = q
members_depth-by Greater a b c n p q r = r

pub members_depth-put : (k : List ℕ) (d : Data) (ms : Members) (n : ℕ) → depth d ≤ n → members_depth ms ≤ n → members_depth (put k d ms) ≤ n
members_depth-put k d no_members n p q = omega arith
members_depth-put k d (member l e ms) n p q =
    members_depth-by _ (member k d (member l e ms)) (member l d ms) (member l e (put k d ms)) n (omega arith) (omega arith) (omega (arith, members_depth-put k d ms n p (omega arith)))

pub members_depth-without : (name : List ℕ) (ms : Members) (n : ℕ) → members_depth ms ≤ n → members_depth (without_member name ms) ≤ n
members_depth-without name no_members n h = omega arith
members_depth-without name (member k d ms) n h =
    let rest = members_depth-without name ms n (omega (arith, h)) in
    elim (cases_Bool (bytes_eq name k)) [ inl same ↦ rw same rest | inr apart ↦ rw apart (omega (arith, h, rest)) ]

-- what is in a value nests less deep than the value
pub object_members-depth : (d : Data) (n : ℕ) → depth d ≤ suc n → members_depth (object_members d) ≤ n
object_members-depth null n h = omega arith
object_members-depth (boolean b) n h = omega arith
object_members-depth (number x) n h = omega arith
object_members-depth (string s) n h = omega arith
object_members-depth (array ds) n h = omega arith
object_members-depth (object ms) n h = omega (arith, h)

-- something that may be there nests at most this deep
abbrev pub AtMost : {A : Type 0} → (A → ℕ) → ℕ → Option A → Type 0
AtMost f n None = ⊤
AtMost f n (Some a) = f a ≤ n

found_by : (o : Ordering) (d e : Option Data) (n : ℕ) → AtMost depth n d → AtMost depth n e → AtMost depth n (match_ordering o d e d)
found_by Less d e n p q = p
found_by Equal d e n p q = q
found_by Greater d e n p q = p

get_member-depth : (k : List ℕ) (ms : Members) (n : ℕ) → members_depth ms ≤ n → AtMost depth n (get_member k ms)
get_member-depth k no_members n h = tt
get_member-depth k (member l e ms) n h =
    let here : depth e ≤ n = omega (arith, h) in
    found_by (slice_cmp nat_cmp k l) (get_member k ms) (Some e) n (get_member-depth k ms n (omega (arith, h))) here

pub get-depth : (k : List ℕ) (d : Data) (n : ℕ) → depth d ≤ suc n → AtMost depth n (get k d)
get-depth k null n h = tt
get-depth k (boolean b) n h = tt
get-depth k (number x) n h = tt
get-depth k (string s) n h = tt
get-depth k (array ds) n h = tt
get-depth k (object ms) n h = get_member-depth k ms n (omega (arith, h))
