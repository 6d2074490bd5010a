-- Lemmas about rows of a pattern.
use Rattle.std.proofs.Common.{◌≡◌, ◌≢◌, ℕ, ◌+◌, ◌-◌, ◌<◌, ◌≤◌, Bool, true, false, cond, ◌&&◌, ◌||◌, ◌==◌, List, [], ◌∷◌, ◌++◌, Bor, length, drop, get_or, set, replicate, inl, inr, refl, sym, ap, subst, ◌∙◌, arith}
use Rattle.std.proofs.Math.Seq.{drop-cons}
use Rattle.std.proofs.lemmas.Bool.{cases_Bool, cases_eq, cases_lt, eqb-true}
use Rattle.std.proofs.Math.Dec.{eqb-suc-zero}
use Rattle.std.specs.List.{list_any}
use Rattle.std.proofs.Math.ListN.{drop_of_length-le}
use Rattle.std.proofs.Math.Seq.{get_or-append_seam}
use Rattle.std.proofs.lemmas.List.{drop_more, get_or-replicate, get_or-set_same, get_or-set_other, get_or_append_left, length-append, length-replicate, length-set, replicate-append-replicate}
use Rattle.oci_entries.specs.Pattern.{after_byte, after_character, after_continuation, continues, matches, matches_one, some_end, texts_of, IsRow}

-- a row that is changed from a place on
pub record IsChangedFrom (place : ℕ) (old new : List ℕ → Bool) (text : List ℕ) (row : List Bool) : Type 0 where
  pub len : length row ≡ length text + 1
  pub before : (i : ℕ) → i < place → i ≤ length text → get_or row i false ≡ old (drop i text)
  pub from : (i : ℕ) → place ≤ i → i ≤ length text → get_or row i false ≡ new (drop i text)

module _ (old new : List ℕ → Bool) (text : List ℕ) where
  pub unchanged : (row : List Bool) (place : ℕ) → length text < place → IsRow old text row → IsChangedFrom place old new text row
  unchanged row place past is = record { len = is.len; before = λ i lt le. is.at i le; from = λ i ge le. let h : ⊥ = omega arith in absurd h }

  pub changed_all : (row : List Bool) (place : ℕ) → place ≡ 0 → IsChangedFrom place old new text row → IsRow new text row
  changed_all row place zero is = record { len = is.len; at = λ i le. is.from i (omega arith) le }

  pub change : (row : List Bool) (place : ℕ) (v : Bool) → place ≤ length text → v ≡ new (drop place text) → IsChangedFrom (place + 1) old new text row → IsChangedFrom place old new text (set row place v)
  change row place v within is changed = record {
    len = length-set row place v ∙ changed.len;
    before = λ i lt le. get_or-set_other row place i v false (λ same. let h : ⊥ = omega arith in h) ∙ changed.before i (omega arith) le;
    from = λ i ge le.
        elim (cases_eq i place) [
          | inl same ↦ subst (λ (n : ℕ). get_or (set row place v) n false ≡ new (drop n text)) (sym same) (get_or-set_same row place v false (let h = changed.len in omega arith) ∙ is)
          | inr other ↦ get_or-set_other row place i v false other ∙ changed.from i (omega arith) le
        ];
  }

  -- the same from the front
  pub change_front : (row : List Bool) (place : ℕ) (v : Bool) → place ≤ length text → v ≡ old (drop place text) → IsChangedFrom place old new text row → IsChangedFrom (place + 1) old new text (set row place v)
  change_front row place v within is changed = record {
    len = length-set row place v ∙ changed.len;
    before = λ i lt le.
        elim (cases_eq i place) [
          | inl same ↦ subst (λ (n : ℕ). get_or (set row place v) n false ≡ old (drop n text)) (sym same) (get_or-set_same row place v false (let h = changed.len in omega arith) ∙ is)
          | inr other ↦ get_or-set_other row place i v false other ∙ changed.before i (omega arith) le
        ];
    from = λ i ge le. get_or-set_other row place i v false (λ same. let h : ⊥ = omega arith in h) ∙ changed.from i (omega arith) le;
  }

  pub front_start : (row : List Bool) (place : ℕ) → place ≡ 0 → IsRow new text row → IsChangedFrom place old new text row
  front_start row place zero is = record { len = is.len; before = λ i lt le. let h : ⊥ = omega arith in absurd h; from = λ i ge le. is.at i le }

  pub front_all : (row : List Bool) (place : ℕ) → length text < place → IsChangedFrom place old new text row → IsRow old text row
  front_all row place past changed = record { len = changed.len; at = λ i le. changed.before i (omega arith) le }

-- ---- the row of the empty pattern

not_at : (text : List ℕ) (i : ℕ) → i < length text → matches [] (drop i text) ≡ false
unfolding matches
not_at text i lt = ap (matches []) (drop-cons text i 0 lt)

pub more_false : (n : ℕ) → replicate n false ++ false ∷ [] ≡ replicate (n + 1) false
more_false n = replicate-append-replicate n 1 false

pub row_at_end : (text : List ℕ) (n : ℕ) (row : List Bool) → n ≡ length text → row ≡ replicate n false ++ true ∷ [] → IsRow (matches []) text row
unfolding matches
row_at_end text n row len is = record {
  len = ap length is ∙ length-append (replicate n false) (true ∷ []) ∙ ap (λ (m : ℕ). m + 1) (length-replicate n false ∙ len);
  at = λ i le. ap (λ (xs : List Bool). get_or xs i false) is ∙ elim (cases_lt i (length text)) [
    | inl lt ↦ get_or_append_left (replicate n false) (true ∷ []) false i (let h = length-replicate n false in omega arith) ∙ get_or-replicate n i false false (omega arith) ∙ sym (not_at text i lt)
    | inr ge ↦ last i le ge
  ];
}
  where
    last : (i : ℕ) → i ≤ length text → length text ≤ i → get_or (replicate n false ++ true ∷ []) i false ≡ matches [] (drop i text)
    last i le ge =
        let same : i ≡ length (replicate n false) = let h = length-replicate n false in omega arith in
        ap (λ (m : ℕ). get_or (replicate n false ++ true ∷ []) m false) same ∙ get_or-append_seam (replicate n false) true [] false ∙ sym (ap (matches []) (drop_of_length-le text ge))

-- ---- a pattern with a byte before it

module _ (test : List ℕ → Bool) (text : List ℕ) (row : List Bool) where
  -- only the end is left
  pub any_start : (place : ℕ) → place ≡ length text → IsRow test text row → IsChangedFrom place test (some_end test) text row
  any_start place is r = record {
    len = r.len;
    before = λ i lt le. r.at i le;
    from = λ i ge le.
        let empty : drop i text ≡ [] = drop_of_length-le text (omega arith) in
        r.at i le ∙ ap test empty ∙ sym (ap (some_end test) empty);
  }

  pub any_next : (p q : ℕ) → q ≡ p + 1 → q ≤ length text → IsChangedFrom q test (some_end test) text row → (get_or row p false || get_or row q false) ≡ some_end test (drop p text)
  any_next p q next within changed =
      let here : get_or row p false ≡ test (drop p text) = changed.before p (omega arith) (omega arith) in
      let later : get_or row q false ≡ some_end test (drop q text) = changed.from q (omega arith) within in
      let apart : drop p text ≡ get_or text p 0 ∷ drop q text = drop_more text p 0 (omega arith) ∙ ap (λ (m : ℕ). get_or text p 0 ∷ drop m text) (sym next) in
      rw here (rw later (rw apart refl))

  pub byte_next : (p byte : ℕ) → p < length text → IsChangedFrom p (after_byte byte test) test text row → (get_or text p 0 == byte && get_or row (p + 1) false) ≡ after_byte byte test (drop p text)
  byte_next p byte lt changed =
      ap (λ (b : Bool). get_or text p 0 == byte && b) (changed.from (p + 1) (omega arith) (omega arith)) ∙ sym (ap (after_byte byte test) (drop_more text p 0 lt))

  pub byte_end : (byte p : ℕ) → p ≡ length text → false ≡ after_byte byte test (drop p text)
  byte_end byte p is = sym (ap (after_byte byte test) (drop_of_length-le text (omega arith)))

  pub character_next : (p : ℕ) (after : Bool) → p < length text → after ≡ test (after_continuation (drop (p + 1) text)) → after ≡ after_character test (drop p text)
  character_next p after lt is = is ∙ sym (ap (after_character test) (drop_more text p 0 lt))

  pub character_end : (p : ℕ) → p ≡ length text → false ≡ after_character test (drop p text)
  character_end p is = sym (ap (after_character test) (drop_of_length-le text (omega arith)))

  pub after_next : (p : ℕ) (here after new : Bool) → p < length text → here ≡ test (drop p text) → after ≡ test (after_continuation (drop (p + 1) text)) → new ≡ cond (continues (get_or text p 0)) after here
      → new ≡ test (after_continuation (drop p text))
  after_next p here after new lt is_here is_after is =
      let apart = drop_more text p 0 lt in
      is ∙ elim (cases_Bool (continues (get_or text p 0))) [
        | inl goes_on ↦ rw goes_on (is_after ∙ ap test (sym (rw apart (rw goes_on refl))))
        | inr begins ↦ rw begins (is_here ∙ ap test (rw apart (sym (rw begins refl))))
      ]

pub nothing_after : (text : List ℕ) (p : ℕ) → length text ≤ p → drop p text ≡ after_continuation (drop p text)
nothing_after text p past = let none = drop_of_length-le text past in rw none refl

same_row : (old new : List ℕ → Bool) (text : List ℕ) (row : List Bool) → ((t : List ℕ) → old t ≡ new t) → IsRow old text row → IsRow new text row
same_row old new text row same is = record { len = is.len; at = λ i le. is.at i le ∙ same (drop i text) }

unlike : (a b : ℕ) → a ≢ b → (a == b) ≡ false
unlike a b not_same = elim (cases_Bool (a == b)) [ inl same ↦ absurd (not_same (eqb-true a b same)) | inr other ↦ other ]

module _ (pattern text : List ℕ) (row : List Bool) (p : ℕ) where
  pub any_row : p ≡ 42 → IsRow (some_end (matches pattern)) text row → IsRow (matches (p ∷ pattern)) text row
  unfolding matches
  any_row is r = same_row (some_end (matches pattern)) (matches (p ∷ pattern)) text row (λ t. rw is refl) r

  pub character_row : p ≡ 63 → IsRow (after_character (matches pattern)) text row → IsRow (matches (p ∷ pattern)) text row
  unfolding matches
  character_row is r = same_row (after_character (matches pattern)) (matches (p ∷ pattern)) text row (λ t. rw is refl) r

  pub byte_row : p ≢ 42 → p ≢ 63 → IsRow (after_byte p (matches pattern)) text row → IsRow (matches (p ∷ pattern)) text row
  unfolding matches
  byte_row not_any not_one r =
      same_row (after_byte p (matches pattern)) (matches (p ∷ pattern)) text row (λ t. let more : (p == 42) ≡ false = unlike p 42 not_any in let one : (p == 63) ≡ false = unlike p 63 not_one in rw more (rw one refl)) r

-- the pattern from a place on
pub before_place : (pattern text : List ℕ) (row : List Bool) (place : ℕ) → 0 < place → place ≤ length pattern → (d : ℕ) → IsRow (matches (get_or pattern (place - 1) d ∷ drop place pattern)) text row → IsRow (matches (drop (place - 1) pattern)) text row
before_place pattern text row place first within d is =
    let next : place - 1 + 1 ≡ place = omega (arith, first) in
    let apart : drop (place - 1) pattern ≡ get_or pattern (place - 1) d ∷ drop place pattern = drop_more pattern (place - 1) d (omega (arith, first, within)) ∙ ap (λ (n : ℕ). get_or pattern (place - 1) d ∷ drop n pattern) next in
    rw apart is

-- ---- several patterns

-- whether one of the patterns from a place on matches
pub next_pattern : (text : List ℕ) (ps : List (Bor (List ℕ))) (i : ℕ) (d : Bor (List ℕ)) (b : Bool) → i < length ps → b ≡ matches (get_or ps i d).now text
    → list_any (λ (p : List ℕ). matches p text) (texts_of (drop i ps)) ≡ (b || list_any (λ (p : List ℕ). matches p text) (texts_of (drop (i + 1) ps)))
next_pattern text ps i d b lt is = ap (λ (qs : List (Bor (List ℕ))). list_any (λ (p : List ℕ). matches p text) (texts_of qs)) (drop_more ps i d lt) ∙ ap (λ (x : Bool). x || list_any (λ (p : List ℕ). matches p text) (texts_of (drop (i + 1) ps))) (sym is)

pub one_passes : (text : List ℕ) (ps : List (List ℕ)) → list_any (λ (p : List ℕ). matches p text) ps ≡ true → matches_one ps text ≡ true
one_passes text [] h = refl
one_passes text (p ∷ ps) h = h

pub none_passes : (text : List ℕ) (ps : List (Bor (List ℕ))) → list_any (λ (p : List ℕ). matches p text) (texts_of ps) ≡ false → (length ps == 0) ≡ matches_one (texts_of ps) text
none_passes text [] h = refl
none_passes text (p ∷ ps) h = eqb-suc-zero (length ps) ∙ sym h
