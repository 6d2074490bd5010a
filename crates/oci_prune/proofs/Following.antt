-- The keys of tags, under what names a digest.
use Rattle.std.proofs.Common.{◌≡◌, ℕ, ◌+◌, ◌<◌, Bool, true, false, cond, inl, inr, List, [], ◌∷◌, ◌++◌, length, get_or, take, filter, Option, Some, None, String, Global, string_bytes, sym, ap, subst, ◌∙◌}
use Rattle.std.specs.Prelude.{Contains}
use Rattle.std.specs.BTreeMap.{get_by_text}
use Rattle.std.specs.Global.{Vec}
use Rattle.std.specs.Map.{update}
use Rattle.std.specs.Option.{option_map_or}
use Rattle.std.specs.Str.{bytes_eq}
use Rattle.std.proofs.lemmas.Bool.{cases_Bool, and_parts, and_from, or_cases, or_left, or_right}
use Rattle.std.proofs.lemmas.List.{map-append, append-nil}
use Rattle.std.proofs.lemmas.List.Elements.{Contains-push, Contains-push_cases, Contains-append_left, Contains-append_right, Contains-append_cases, filter-append}
use Rattle.std.proofs.lemmas.Slice.Eq.{bytes_eq-Decides}
use Rattle.oci_manifest.specs.Descriptor.{Descriptor}
use Rattle.oci_manifest.specs.MediaTypes.{kind_of}
use Rattle.oci_store.specs.Tags.{Tags, by_bytes}
use Rattle.oci_layout_store.specs.Layout.{is_manifest}
use Rattle.oci_prune.specs.Attached.{stem, dashed, cut, is_stem_of, Followers, stemmed_in, followers_in, AreAttachments, AreFollowers, AreStemmed, IsStemAdded}
use Rattle.oci_prune.specs.Subjects.{AreReferrers, referrers_in}
use Rattle.oci_prune.specs.declared.attachments.Attachments.{Attachments}
use Rattle.oci_prune.proofs.Elements.{no_element, next_element}

abbrev Keys : Type 0
Keys = List Descriptor

abbrev Named : Type 0
Named = String Global × Descriptor

-- the keys of an entry of the table
abbrev pub keys_at : Option (Vec Descriptor) → Keys
keys_at found = option_map_or (λ (keys : Vec Descriptor). keys.items) found []

-- ---- one key more

-- what the table has after a list with one key more was put at a text
pub stem_added : (old new : Followers) (k : Descriptor) (text : List ℕ) (ks : Keys) (more : Vec Descriptor) → ((now : List ℕ) → get_by_text new now ≡ update bytes_eq (get_by_text old) text (Some more) now) → keys_at (get_by_text old text) ≡ ks
    → more.items ≡ ks ++ k ∷ [] → IsStemAdded k text old new
stem_added old new k text ks more updates was grown other now =
    let here = ap keys_at (updates now) in
    elim (cases_Bool (bytes_eq text now)) [
      | inl same ↦
          let is : text ≡ now = (bytes_eq-Decides text now).0 same in
          let before : stemmed_in old now ≡ ks = ap (λ (t : List ℕ). stemmed_in old t) (sym is) ∙ was in
          let after : stemmed_in new now ≡ ks ++ k ∷ [] = here ∙ ap (λ (b : Bool). keys_at (cond b (Some more) (get_by_text old now))) same ∙ grown in (
            λ h. elim (Contains-push_cases ks k other (subst (λ (t : Keys). Contains t other) after h)) [
              | inl there ↦ inl (subst (λ (t : Keys). Contains t other) (sym before) there)
              | inr this ↦ inr (this, is)
            ],
            λ p. subst (λ (t : Keys). Contains t other) (sym after) (elim p [
              | inl there ↦ Contains-append_left ks (k ∷ []) other (subst (λ (t : Keys). Contains t other) before there)
              | inr both ↦ subst (Contains (ks ++ k ∷ [])) both.0 (Contains-push ks k)
            ]),
          )
      | inr apart ↦
          let after : stemmed_in new now ≡ stemmed_in old now = here ∙ ap (λ (b : Bool). keys_at (cond b (Some more) (get_by_text old now))) apart in (
            λ h. inl (subst (λ (t : Keys). Contains t other) after h),
            λ p. elim p [
              | inl there ↦ subst (λ (t : Keys). Contains t other) (sym after) there
              | inr both ↦ cc (apart, (bytes_eq-Decides text now).1 both.1)
            ],
          )
    ]

-- ---- all tags

pub by_bytes-next : (tags : List Named) (i : ℕ) (tag : Named) → i < length tags → tag ≡ get_or tags i tag → by_bytes (take (i + 1) tags) ≡ by_bytes (take i tags) ++ (string_bytes tag.0, tag.1) ∷ []
by_bytes-next tags i tag lt is = ap by_bytes (next_element tags i tag lt is) ∙ map-append (λ (t : Named). (string_bytes t.0, t.1)) (take i tags) (tag ∷ [])

pub stemmed_none : (followers : Followers) → ((text : List ℕ) → get_by_text followers text ≡ None) → AreStemmed [] followers
stemmed_none followers none k text = (
  λ h. absurd (no_element k (subst (λ (o : Option (Vec Descriptor)). Contains (keys_at o) k) (none text) h)),
  λ p. absurd (no_element (p.0, k) p.1),
)

stemmed_push : (tags : Tags) (name : List ℕ) (key : Descriptor) (old new : Followers) → AreStemmed tags old → IsStemAdded key (stem name) old new → AreStemmed (tags ++ (name, key) ∷ []) new
stemmed_push tags name key old new are added k text = (
  λ h. elim ((added k text).0 h) [
    | inl was ↦
        let p = (are k text).0 was in
        (p.0, Contains-append_left tags ((name, key) ∷ []) (p.0, k) p.1, p.2)
    | inr both ↦ (name, subst (λ (x : Descriptor). Contains (tags ++ (name, key) ∷ []) (name, x)) both.0 (Contains-push tags (name, key)), both.1)
  ],
  λ p. (added k text).1 (elim (Contains-push_cases tags (name, key) (p.0, k) p.1) [
    | inl was ↦ inl ((are k text).1 (p.0, was, p.2))
    | inr is ↦ inr (ap (λ (t : List ℕ × Descriptor). t.1) is, ap (λ (t : List ℕ × Descriptor). stem t.0) is ∙ p.2)
  ]),
)

pub stemmed_more : (tags : List Named) (i : ℕ) (tag : Named) (old new : Followers) → i < length tags → tag ≡ get_or tags i tag → AreStemmed (by_bytes (take i tags)) old → IsStemAdded tag.1 (stem (string_bytes tag.0)) old new
    → AreStemmed (by_bytes (take (i + 1) tags)) new
stemmed_more tags i tag old new lt is are added =
    subst (λ (ts : Tags). AreStemmed ts new) (sym (by_bytes-next tags i tag lt is)) (stemmed_push (by_bytes (take i tags)) (string_bytes tag.0) tag.1 old new are added)

-- ---- the keys that follow a key

abbrev following_if : Bool → Keys → Keys
following_if manifest keys = cond manifest keys []

pub are_followers : (tags : Tags) (followers : Followers) → AreStemmed tags followers → AreFollowers tags followers
are_followers tags followers are k subject =
    let digest = subject.digest in
    let whole = stemmed_in followers (dashed digest) in
    let short = stemmed_in followers (cut digest) in
    elim (cases_Bool (is_manifest (kind_of subject.media_type))) [
      | inl manifest ↦ (
        λ h. elim (Contains-append_cases whole short k (subst (λ (b : Bool). Contains (following_if b (whole ++ short)) k) manifest h)) [
          | inl first ↦
              let p = (are k (dashed digest)).0 first in
              (p.0, p.1, and_from (is_manifest (kind_of subject.media_type)) (is_stem_of (stem p.0) digest) manifest (or_left (bytes_eq (stem p.0) (dashed digest)) (bytes_eq (stem p.0) (cut digest)) ((bytes_eq-Decides (stem p.0) (dashed digest)).1 p.2)))
          | inr second ↦
              let p = (are k (cut digest)).0 second in
              (p.0, p.1, and_from (is_manifest (kind_of subject.media_type)) (is_stem_of (stem p.0) digest) manifest (or_right (bytes_eq (stem p.0) (dashed digest)) (bytes_eq (stem p.0) (cut digest)) ((bytes_eq-Decides (stem p.0) (cut digest)).1 p.2)))
        ],
        λ p.
            let named : is_stem_of (stem p.0) digest ≡ true = (and_parts (is_manifest (kind_of subject.media_type)) (is_stem_of (stem p.0) digest) p.2).1 in
            subst (λ (b : Bool). Contains (following_if b (whole ++ short)) k) (sym manifest)
            (elim (or_cases (bytes_eq (stem p.0) (dashed digest)) (bytes_eq (stem p.0) (cut digest)) named) [
              | inl first ↦ Contains-append_left whole short k ((are k (dashed digest)).1 (p.0, p.1, (bytes_eq-Decides (stem p.0) (dashed digest)).0 first))
              | inr second ↦ Contains-append_right whole short k ((are k (cut digest)).1 (p.0, p.1, (bytes_eq-Decides (stem p.0) (cut digest)).0 second))
            ]),
      )
      | inr leaf ↦ (
        λ h. absurd (no_element k (subst (λ (b : Bool). Contains (following_if b (whole ++ short)) k) leaf h)),
        λ p.
            let manifest = (and_parts (is_manifest (kind_of subject.media_type)) (is_stem_of (stem p.0) digest) p.2).0 in
            cc (sym leaf ∙ manifest),
      )
    ]

-- ---- both tables

pub are_attachments : (states : Descriptor → Descriptor → Type 0) (held : Keys) (tags : Tags) (attachments : Attachments) → AreReferrers states held attachments.referrers → AreFollowers tags attachments.followers → AreAttachments states held tags attachments
are_attachments states held tags attachments refer follow k subject = (
  λ h. elim (Contains-append_cases (referrers_in attachments.referrers subject) (followers_in attachments.followers subject) k h) [
    | inl first ↦ inl ((refer k subject).0 first)
    | inr second ↦ inr ((follow k subject).0 second)
  ],
  λ p. elim p [
    | inl first ↦ Contains-append_left (referrers_in attachments.referrers subject) (followers_in attachments.followers subject) k ((refer k subject).1 first)
    | inr second ↦ Contains-append_right (referrers_in attachments.referrers subject) (followers_in attachments.followers subject) k ((follow k subject).1 second)
  ],
)

-- ---- the tags that pass a test

-- those that pass a test, of one tag more
tags_next : (P : List ℕ × Descriptor → Bool) (tags : List Named) (i : ℕ) (tag : Named) (passes : Bool) → i < length tags → tag ≡ get_or tags i tag → P (string_bytes tag.0, tag.1) ≡ passes
    → filter P (by_bytes (take (i + 1) tags)) ≡ filter P (by_bytes (take i tags)) ++ cond passes ((string_bytes tag.0, tag.1) ∷ []) []
tags_next P tags i tag passes lt is test =
    let n : List ℕ × Descriptor = (string_bytes tag.0, tag.1) in
    ap (λ (ts : Tags). filter P ts) (by_bytes-next tags i tag lt is) ∙ filter-append P (by_bytes (take i tags)) (n ∷ []) ∙ ap (λ (b : Bool). filter P (by_bytes (take i tags)) ++ cond b (n ∷ []) []) test

pub tags_kept : (P : List ℕ × Descriptor → Bool) (tags items : List Named) (i : ℕ) (tag copy : Named) → i < length tags → tag ≡ get_or tags i tag → by_bytes items ≡ filter P (by_bytes (take i tags))
    → P (string_bytes tag.0, tag.1) ≡ true → string_bytes copy.0 ≡ string_bytes tag.0 → copy.1 ≡ tag.1 → by_bytes (items ++ copy ∷ []) ≡ filter P (by_bytes (take (i + 1) tags))
tags_kept P tags items i tag copy lt is was test name key =
    let kept : Tags = filter P (by_bytes (take i tags)) in
    map-append (λ (t : Named). (string_bytes t.0, t.1)) items (copy ∷ []) ∙ ap (λ (ts : Tags). ts ++ (string_bytes copy.0, copy.1) ∷ []) was ∙ ap (λ (text : List ℕ). kept ++ (text, copy.1) ∷ []) name ∙ ap (λ (k : Descriptor). kept ++ (string_bytes tag.0, k) ∷ []) key
    ∙ sym (tags_next P tags i tag true lt is test)

pub tags_passed : (P : List ℕ × Descriptor → Bool) (tags items : List Named) (i : ℕ) (tag : Named) → i < length tags → tag ≡ get_or tags i tag → by_bytes items ≡ filter P (by_bytes (take i tags))
    → P (string_bytes tag.0, tag.1) ≡ false → by_bytes items ≡ filter P (by_bytes (take (i + 1) tags))
tags_passed P tags items i tag lt is was test = was ∙ sym (append-nil (filter P (by_bytes (take i tags)))) ∙ sym (tags_next P tags i tag false lt is test)
