-- The subjects that keys state.
use Rattle.std.proofs.Common.{◌≡◌, ℕ, ◌+◌, ◌<◌, Bool, cond, inl, inr, List, [], ◌∷◌, ◌++◌, length, map, get_or, take, Option, Some, None, Ok, nat_cmp, refl, sym, ap, subst, ◌∙◌}
use Rattle.std.specs.Prelude.{◌↔◌, Contains}
use Rattle.std.specs.BTreeMap.{get, Updates}
use Rattle.std.specs.Cmp.Lexicographic.{slice_cmp}
use Rattle.std.specs.Global.{Vec}
use Rattle.std.specs.Option.{option_map_or}
use Rattle.std.specs.Str.{bytes_eq}
use Rattle.std.proofs.lemmas.Bool.{cases_Bool}
use Rattle.std.proofs.lemmas.List.Elements.{Contains-push, Contains-push_cases, Contains-append_left}
use Rattle.std.proofs.lemmas.Map.Text.{is_eq-slice_cmp}
use Rattle.std.proofs.lemmas.Option.{none-some, same_Some}
use Rattle.std.proofs.lemmas.Slice.Eq.{bytes_eq-Decides}
use Rattle.oci_manifest.specs.ArtifactType.{artifact_type_of}
use Rattle.oci_manifest.specs.Descriptor.{Descriptor, Matches}
use Rattle.oci_manifest.specs.Fault.{Fails, not_json, not_object, no_config, bad_list, bad_descriptor}
use Rattle.oci_manifest.specs.MediaTypes.{kind_of}
use Rattle.oci_manifest.specs.Subject.{subject_of}
use Rattle.oci_manifest.specs.declared.fault.ManifestFault.{ManifestFault}
use Rattle.oci_manifest.specs.declared.fault.ManifestFault.TheVariants as manifest
use Rattle.oci_manifest.proofs.Subjects.{subject_of-sound, subject_of-complete}
use Rattle.oci_store.specs.Content.{Entry}
use Rattle.oci_store.specs.Keyed.{value_at}
use Rattle.oci_store.specs.State.{State}
use Rattle.oci_prune_fault.specs.Faults.{of_manifest}
use Rattle.oci_prune.specs.Subjects.{States, Referrers, RefersBy, AreReferrers, IsAdded, IsNoted, IsSubjectFault}
use Rattle.oci_layout_store.specs.declared.fault.LayoutFault.TheVariants as layout
use Rattle.oci_prune_fault.specs.declared.fault.PruneFault.{PruneFault}
use Rattle.oci_prune_fault.specs.declared.fault.PruneFault.TheVariants as fault
use Rattle.oci_prune.specs.Typed.{IsOneOf, IsOfTypes, Passes, StatesBy}
use Rattle.oci_prune.specs.declared.type_filter.TypeFilter.{TypeFilter}
use Rattle.oci_prune.specs.declared.type_filter.TypeFilter.TheVariants as filter
use Rattle.oci_prune.proofs.Elements.{next_element}

abbrev Keys : Type 0
Keys = List Descriptor

abbrev Relation : Type 1
Relation = Descriptor → Descriptor → Type 0

-- ---- one key

-- what was read is what the bytes state
pub stated_exact : (entries : List Entry) (k : Descriptor) (bytes : List ℕ) (found : Option Descriptor) → value_at entries k ≡ Some bytes → subject_of (kind_of k.media_type) bytes ≡ Ok found
    → (subject : Descriptor) → (found ≡ Some subject) ↔ States entries k subject
stated_exact entries k bytes found own read subject = (
  λ e. (bytes, own, subject_of-sound (kind_of k.media_type) bytes subject (read ∙ ap (λ (o : Option Descriptor). Ok o) e)),
  λ states.
      let same : states.0 ≡ bytes = cc (sym states.1 ∙ own) in
      let whole = subst (λ (bs : List ℕ). subject_of (kind_of k.media_type) bs ≡ Ok (Some subject)) same (subject_of-complete (kind_of k.media_type) states.0 subject states.2) in
      cc (sym read ∙ whole),
)

-- what was read and passes a filter is what the bytes state by it
pub passing_exact : (entries : List Entry) (filter : TypeFilter) (k : Descriptor) (bytes : List ℕ) (stated found : Option Descriptor) → value_at entries k ≡ Some bytes → subject_of (kind_of k.media_type) bytes ≡ Ok stated
    → ((subject : Descriptor) → (found ≡ Some subject) ↔ ((stated ≡ Some subject) × Passes filter (kind_of k.media_type) bytes subject)) → (subject : Descriptor) → (found ≡ Some subject) ↔ StatesBy entries filter k subject
passing_exact entries filter.AnyType k bytes stated found own read passes subject = (
  λ e. (stated_exact entries k bytes stated own read subject).0 ((passes subject).0 e).0,
  λ states. (passes subject).1 ((stated_exact entries k bytes stated own read subject).1 states, tt),
)
passing_exact entries (filter.OneOf subjects types) k bytes stated found own read passes subject = (
  λ e.
      let p = (passes subject).0 e in
      ((stated_exact entries k bytes stated own read subject).0 p.0, λ reached. (bytes, own, p.1 reached)),
  λ states. (passes subject).1 ((stated_exact entries k bytes stated own read subject).1 states.0, λ reached. of_bytes (states.1 reached)),
)
  where
    of_bytes : IsOfTypes entries (map (λ t. t.now) types.now) k → IsOneOf (map (λ t. t.now) types.now) (artifact_type_of (kind_of k.media_type) bytes)
    of_bytes is =
        let same : is.0 ≡ bytes = cc (sym is.1 ∙ own) in
        subst (λ (bs : List ℕ). IsOneOf (map (λ t. t.now) types.now) (artifact_type_of (kind_of k.media_type) bs)) same is.2

-- what could not be read breaks a rule
pub unread_fault : (store : State) (k : Descriptor) (bytes : List ℕ) (e : ManifestFault) → Matches k bytes → (store.is_honest → value_at store.entries k ≡ Some bytes) → Fails e (subject_of (kind_of k.media_type) bytes)
    → IsSubjectFault store (λ other. other ≡ k) (of_manifest k e)
unread_fault store k bytes manifest.NotJson m own h = (refl, (bytes, not_json, m, own, h, refl))
unread_fault store k bytes manifest.NotObject m own h = (refl, (bytes, not_object, m, own, h, refl))
unread_fault store k bytes manifest.NoConfig m own h = (refl, (bytes, no_config, m, own, h, refl))
unread_fault store k bytes (manifest.BadList member) m own h = (refl, (bytes, bad_list member.now, m, own, h, refl))
unread_fault store k bytes (manifest.BadDescriptor member position) m own h = (refl, (bytes, bad_descriptor member.now position, m, own, h, refl))
unread_fault store k bytes manifest.Memory m own h = tt

-- ---- the map

-- the keys of an entry of the map
abbrev pub keys_at : Option (Vec Descriptor) → Keys
keys_at found = option_map_or (λ (keys : Vec Descriptor). keys.items) found []

-- what a map has after a list with one key more was put at a digest
pub noted : (old new : Referrers) (k : Descriptor) (digest : List ℕ) (ks : Keys) (more : Vec Descriptor) → Updates (slice_cmp nat_cmp) old new digest (Some more) → keys_at (get (slice_cmp nat_cmp) old digest) ≡ ks → more.items ≡ ks ++ k ∷ []
    → IsAdded k digest old new
noted old new k digest ks more updates was grown other subject =
    let here = ap keys_at (updates.0 subject.digest ∙ ap (λ (b : Bool). cond b (Some more) (get (slice_cmp nat_cmp) old subject.digest)) (is_eq-slice_cmp digest subject.digest)) in
    elim (cases_Bool (bytes_eq digest subject.digest)) [
      | inl same ↦
          let is : digest ≡ subject.digest = (bytes_eq-Decides digest subject.digest).0 same in
          let before : keys_at (get (slice_cmp nat_cmp) old subject.digest) ≡ ks = ap (λ (d : List ℕ). keys_at (get (slice_cmp nat_cmp) old d)) (sym is) ∙ was in
          let after : keys_at (get (slice_cmp nat_cmp) new subject.digest) ≡ ks ++ k ∷ [] = here ∙ ap (λ (b : Bool). keys_at (cond b (Some more) (get (slice_cmp nat_cmp) old subject.digest))) same ∙ grown in (
            λ h. elim (Contains-push_cases ks k other (subst (λ (t : Keys). Contains t other) after h)) [
              | inl there ↦ inl (subst (λ (t : Keys). Contains t other) (sym before) there)
              | inr this ↦ inr (this, is)
            ],
            λ p. subst (λ (t : Keys). Contains t other) (sym after) (elim p [
              | inl there ↦ Contains-append_left ks (k ∷ []) other (subst (λ (t : Keys). Contains t other) before there)
              | inr both ↦ subst (Contains (ks ++ k ∷ [])) both.0 (Contains-push ks k)
            ]),
          )
      | inr apart ↦
          let after : keys_at (get (slice_cmp nat_cmp) new subject.digest) ≡ keys_at (get (slice_cmp nat_cmp) old subject.digest) = here ∙ ap (λ (b : Bool). keys_at (cond b (Some more) (get (slice_cmp nat_cmp) old subject.digest))) apart in (
            λ h. inl (subst (λ (t : Keys). Contains t other) after h),
            λ p. elim p [
              | inl there ↦ subst (λ (t : Keys). Contains t other) (sym after) there
              | inr both ↦ cc (apart, (bytes_eq-Decides digest subject.digest).1 both.1)
            ],
          )
    ]

referrers_push : (states : Relation) (keys : Keys) (key : Descriptor) (found : Option Descriptor) (old new : Referrers) → AreReferrers states keys old → ((subject : Descriptor) → (found ≡ Some subject) ↔ states key subject)
    → IsNoted key found old new → AreReferrers states (keys ++ key ∷ []) new
referrers_push states keys key None old new are exact noted k subject = (
  λ h.
      let p = (are k subject).0 (subst (λ (m : Referrers). RefersBy m k subject) noted h) in
      (Contains-append_left keys (key ∷ []) k p.0, p.1),
  λ p. subst (λ (m : Referrers). RefersBy m k subject) (sym noted) (elim (Contains-push_cases keys key k p.0) [
    | inl was ↦ (are k subject).1 (was, p.1)
    | inr is ↦
        let never : None ≡ Some p.1.0 = (exact p.1.0).1 (subst (λ (x : Descriptor). states x p.1.0) (sym is) p.1.1) in
        absurd (none-some p.1.0 never)
  ]),
)
referrers_push states keys key (Some found) old new are exact noted k subject = (
  λ h. elim ((noted k subject).0 h) [
    | inl was ↦
        let p = (are k subject).0 was in
        (Contains-append_left keys (key ∷ []) k p.0, p.1)
    | inr both ↦ (subst (Contains (keys ++ key ∷ [])) both.0 (Contains-push keys key), (found, subst (λ (x : Descriptor). states x found) both.0 ((exact found).0 refl), both.1))
  ],
  λ p. (noted k subject).1 (elim (Contains-push_cases keys key k p.0) [
    | inl was ↦ inl ((are k subject).1 (was, p.1))
    | inr is ↦
        let stated : Some found ≡ Some p.1.0 = (exact p.1.0).1 (subst (λ (x : Descriptor). states x p.1.0) (sym is) p.1.1) in
        inr (is, ap (λ (d : Descriptor). d.digest) (same_Some found p.1.0 stated) ∙ p.1.2)
  ]),
)

pub referrers_more : (states : Relation) (keys : Keys) (i : ℕ) (k : Descriptor) (found : Option Descriptor) (old new : Referrers) → i < length keys → k ≡ get_or keys i k → AreReferrers states (take i keys) old
    → ((subject : Descriptor) → (found ≡ Some subject) ↔ states k subject) → IsNoted k found old new → AreReferrers states (take (i + 1) keys) new
referrers_more states keys i k found old new lt is are exact noted =
    subst (λ (ks : Keys). AreReferrers states ks new) (sym (next_element keys i k lt is)) (referrers_push states (take i keys) k found old new are exact noted)

-- the fault of one key is one of the keys
pub one_of : (store : State) (k : Descriptor) (P : Descriptor → Type 0) (e : PruneFault) → P k → IsSubjectFault store (λ other. other ≡ k) e → IsSubjectFault store P e
one_of store k P (fault.Fetch j e) one h = (subst P (sym h.0) one, h.1, h.2)
one_of store k P (fault.Layout (layout.BadManifest j e)) one h = (subst P (sym h.0) one, h.1)
one_of store k P (fault.Layout layout.NoLayoutFile) one h = absurd h
one_of store k P (fault.Layout layout.BadLayoutFile) one h = absurd h
one_of store k P (fault.Layout layout.BadVersion) one h = absurd h
one_of store k P (fault.Layout (layout.BadIndex e)) one h = absurd h
one_of store k P (fault.Layout layout.Device) one h = absurd h
one_of store k P (fault.Layout (layout.Corrupt j)) one h = absurd h
one_of store k P (fault.Layout layout.Memory) one h = absurd h
one_of store k P (fault.Layout layout.AlreadyLayout) one h = absurd h
one_of store k P fault.Memory one h = tt
one_of store k P (fault.NotRemoved path) one h = absurd h
one_of store k P (fault.Unknown j) one h = absurd h
one_of store k P fault.NoTags one h = absurd h
one_of store k P (fault.LinkedBlobs path) one h = absurd h
