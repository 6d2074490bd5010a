-- The key that a reference names, one entry or one key at a time.
use Rattle.std.proofs.Common.{◌≡◌, ◌≢◌, ℕ, ◌+◌, ◌<◌, true, false, cond, inl, inr, List, [], ◌∷◌, ◌++◌, map, length, take, get_or, Greater, Option, Some, None, refl, sym, ap, subst, ◌∙◌}
use Rattle.std.specs.List.{All}
use Rattle.std.specs.declared.cmp.Ordering.{Ordering}
use Rattle.std.specs.declared.cmp.Ordering.TheVariants.{Less, Equal}
use Rattle.std.specs.Ordering.{is_gt, is_lt, ordering_reverse}
use Rattle.std.specs.Str.{bytes_eq}
use Rattle.std.proofs.lemmas.Bool.{cases_Bool}
use Rattle.std.proofs.lemmas.Cmp.{tied_itself, upto}
use Rattle.std.proofs.lemmas.List.{take_more}
use Rattle.std.proofs.lemmas.List.Elements.{All-nil, All-push, All-weaker, Contains-append_left, Contains-push}
use Rattle.std.proofs.lemmas.Slice.Eq.{bytes_eq-Decides}
use Rattle.oci_manifest.specs.Descriptor.{Descriptor, key_cmp}
use Rattle.oci_store.specs.Tags.{IsLeastOf, IsLeastWith}
use Rattle.oci_store.proofs.KeyOrder.{key_cmp_total}
use Rattle.oci_layout_store.specs.Entries.{IndexEntry, entry_of}
use Rattle.oci_layout_store.specs.Saved.{is_name, last_place, later_place}
use Rattle.oci_layout_store.specs.declared.index.IndexEntry.{IndexEntry as CodeEntry}
use Rattle.oci_layout_store.proofs.LastNames.{entries-more, later_place-cond, later_place-none, length-entries}
use Rattle.oci_reference.specs.Reference.{comes_first}

-- ---- the last entry with a name

last_place-push : (name : List ℕ) (es : List IndexEntry) (e : IndexEntry) → last_place name (es ++ e ∷ []) ≡ cond (is_name name e.name) (Some (length es)) (last_place name es)
last_place-push name [] e = later_place-none (is_name name e.name)
last_place-push name (d ∷ es) e =
    ap (λ (o : Option ℕ). later_place o (is_name name d.name)) (last_place-push name es e)
    ∙ later_place-cond (is_name name e.name) (is_name name d.name) (length es) (last_place name es)

-- the last entry of those so far, and of one entry more
pub last_place-next : (name : List ℕ) (es : List CodeEntry) (i : ℕ) (e : CodeEntry) → i < length es → e ≡ get_or es i e
    → last_place name (map entry_of (take (i + 1) es)) ≡ cond (is_name name (entry_of e).name) (Some i) (last_place name (map entry_of (take i es)))
last_place-next name es i e lt is =
    ap (last_place name) (entries-more es i e lt is) ∙ last_place-push name (map entry_of (take i es)) (entry_of e)
    ∙ ap (λ (n : ℕ). cond (is_name name (entry_of e).name) (Some n) (last_place name (map entry_of (take i es)))) (length-entries es i lt)

-- ---- the least key with a digest

abbrev Apart : List ℕ → Descriptor → Type 0
Apart digest k = k.digest ≢ digest

abbrev NotAfter : List ℕ → Descriptor → Descriptor → Type 0
NotAfter digest k other = other.digest ≡ digest → key_cmp k other ≢ Greater

not_greater : (o : Ordering) → is_gt o ≡ false → o ≢ Greater
not_greater Less h e = cc e
not_greater Equal h e = cc e
not_greater Greater h e = cc h

is_not_gt : (o : Ordering) → o ≢ Greater → is_gt o ≡ false
is_not_gt Less h = refl
is_not_gt Equal h = refl
is_not_gt Greater h = absurd (h refl)

less_not_gt : (o : Ordering) → is_lt o ≡ true → is_gt o ≡ false
less_not_gt Less h = refl
less_not_gt Equal h = cc
less_not_gt Greater h = cc

turned : (o : Ordering) → is_lt o ≡ false → is_gt (ordering_reverse o) ≡ false
turned Less h = cc h
turned Equal h = refl
turned Greater h = refl

with_digest : (k : Descriptor) (digest : List ℕ) → bytes_eq k.digest digest ≡ true → k.digest ≡ digest
with_digest k digest h = (bytes_eq-Decides k.digest digest).0 h

without_digest : (k : Descriptor) (digest : List ℕ) → bytes_eq k.digest digest ≡ false → Apart digest k
without_digest k digest h e = cc (h, (bytes_eq-Decides k.digest digest).1 e)

-- the first key of a digest is the least
first_with : (keys : List Descriptor) (digest : List ℕ) (k : Descriptor) → All (Apart digest) keys → k.digest ≡ digest → IsLeastWith (keys ++ k ∷ []) digest k
first_with keys digest k none same = record {
  there = Contains-push keys k;
  same_digest = same;
  least = All-push (NotAfter digest k) keys k
      (All-weaker (Apart digest) (NotAfter digest k) (λ other apart e. absurd (apart e)) keys none)
      (λ e. not_greater (key_cmp k k) (ap is_gt (tied_itself key_cmp_total k)));
}

-- a key that is less takes the place of the least
less_with : (keys : List Descriptor) (digest : List ℕ) (m k : Descriptor) → IsLeastWith keys digest m → k.digest ≡ digest → is_lt (key_cmp k m) ≡ true → IsLeastWith (keys ++ k ∷ []) digest k
less_with keys digest m k h same less = record {
  there = Contains-push keys k;
  same_digest = same;
  least = All-push (NotAfter digest k) keys k
      (All-weaker (NotAfter digest m) (NotAfter digest k) (λ other after e. not_greater (key_cmp k other)
      (upto key_cmp_total k m other (less_not_gt (key_cmp k m) less) (is_not_gt (key_cmp m other) (after e)))) keys h.least)
      (λ e. not_greater (key_cmp k k) (ap is_gt (tied_itself key_cmp_total k)));
}

-- a key that is of another digest, or not less, does not
still_least : (keys : List Descriptor) (digest : List ℕ) (m k : Descriptor) → IsLeastWith keys digest m → NotAfter digest m k → IsLeastWith (keys ++ k ∷ []) digest m
still_least keys digest m k h after = record {
  there = Contains-append_left keys (k ∷ []) m h.there;
  same_digest = h.same_digest;
  least = All-push (NotAfter digest m) keys k h.least after;
}

not_less : (m k : Descriptor) → is_lt (key_cmp k m) ≡ false → key_cmp m k ≢ Greater
not_less m k h = not_greater (key_cmp m k) (ap is_gt (key_cmp_total.antisymm m k) ∙ turned (key_cmp k m) h)

least-more : (keys : List Descriptor) (digest : List ℕ) (least : Option Descriptor) (k : Descriptor) → IsLeastOf keys digest least → IsLeastOf (keys ++ k ∷ []) digest (cond (comes_first k digest least) (Some k) least)
least-more keys digest None k none =
    elim (cases_Bool (bytes_eq k.digest digest)) [
      | inl same ↦ rw same (first_with keys digest k none (with_digest k digest same))
      | inr apart ↦ rw apart (All-push (Apart digest) keys k none (without_digest k digest apart))
    ]
least-more keys digest (Some m) k h =
    elim (cases_Bool (bytes_eq k.digest digest)) [
      | inl same ↦ elim (cases_Bool (is_lt (key_cmp k m))) [
        | inl less ↦ rw (same, less) (less_with keys digest m k h (with_digest k digest same) less)
        | inr not ↦ rw (same, not) (still_least keys digest m k h (λ _. not_less m k not))
      ]
      | inr apart ↦ rw apart (still_least keys digest m k h (λ e. absurd (without_digest k digest apart e)))
    ]

pub least-next : (keys : List Descriptor) (digest : List ℕ) (least : Option Descriptor) (i : ℕ) (k : Descriptor) → i < length keys → k ≡ get_or keys i k → IsLeastOf (take i keys) digest least
    → IsLeastOf (take (i + 1) keys) digest (cond (comes_first k digest least) (Some k) least)
least-next keys digest least i k lt is h =
    subst (λ (ks : List Descriptor). IsLeastOf ks digest (cond (comes_first k digest least) (Some k) least))
    (sym (take_more keys i k lt ∙ ap (λ (x : Descriptor). take i keys ++ x ∷ []) (sym is)))
    (least-more (take i keys) digest least k h)

pub none_of : (keys : List Descriptor) (digest : List ℕ) → IsLeastOf (take 0 keys) digest None
none_of [] digest = All-nil (Apart digest)
none_of (k ∷ keys) digest = All-nil (Apart digest)
