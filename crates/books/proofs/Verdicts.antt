-- What a verdict on bytes tells of the faults that it looked for.
use Rattle.std.proofs.Common.{◌≡◌, ℕ, ◌<◌, ◌≤◌, Bool, true, false, not, List, [], ◌∷◌, length, take, drop, ◌==◌, Some, None, Ok, Err, Option, sym, refl, ap, ◌∙◌, arith, length-drop}
use Rattle.std.proofs.lemmas.Bool.{lt-ltb, le-ltb, cond-true, cond-false}
use Rattle.carriers.specs.declared.refusals.Refusal.{Refusal}
use Rattle.carriers.specs.declared.refusals.Refusal.TheVariants.{Mark, Version, Length, Field}
use Rattle.std.specs.Str.{bytes_eq}
use Rattle.books.specs.Bytes.{u16_at}
use Rattle.books.specs.BookLayout.{book_size}
use Rattle.carriers.specs.Rules.{Rule, refusal}
use Rattle.books.specs.ChainLayout.{books_fault}
use Rattle.carriers.specs.Rules.{judged}
use Rattle.books.specs.Faults.{otherwise, mark_fault}

-- a refusal by the first rules is the refusal
pub refused_first : {X Y : Type 0} (o p : Option Refusal) (x : X) (y : Y) (e : Refusal) → Err e ≡ judged o x → Err e ≡ judged (otherwise o p) y
refused_first None p x y e h = absurd (let z : ◌≡◌ {A = ℕ} 0 1 = cc in omega arith)
refused_first (Some r) p x y e h = cc

-- where the first rules find nothing, the others decide
pub passed_first : {X Y : Type 0} (o p : Option Refusal) (x z : X) (y : Y) → Ok z ≡ judged o x → judged (otherwise o p) y ≡ judged p y
passed_first None p x z y h = refl
passed_first (Some r) p x z y h = absurd (let w : ◌≡◌ {A = ℕ} 0 1 = cc in omega arith)

pub passed_value : {X : Type 0} (o : Option Refusal) (x z : X) → Ok z ≡ judged o x → z ≡ x
passed_value None x z h = cc
passed_value (Some r) x z h = absurd (let w : ◌≡◌ {A = ℕ} 0 1 = cc in omega arith)

pub passed_fault : {X : Type 0} (o : Option Refusal) (x z : X) → Ok z ≡ judged o x → o ≡ None
passed_fault None x z h = refl
passed_fault (Some r) x z h = absurd (let w : ◌≡◌ {A = ℕ} 0 1 = cc in omega arith)

alone : (q : Option Refusal) → otherwise q None ≡ q
alone None = refl
alone (Some r) = refl

-- the verdict of both, from each
pub refused_second : {X Y Z : Type 0} (o p : Option Refusal) (x z : X) (w : Z) (y : Y) (e : Refusal) → Ok z ≡ judged o x → Err e ≡ judged p w → Err e ≡ judged (otherwise o p) y
refused_second o p x z w y e h k = refused_first p None w y e k ∙ ap (λ q. judged q y) (alone p) ∙ sym (passed_first o p x z y h)

pub passed_both : {X Y Z : Type 0} (o p : Option Refusal) (x z : X) (w v : Z) (y : Y) → Ok z ≡ judged o x → Ok v ≡ judged p w → Ok y ≡ judged (otherwise o p) y
passed_both o p x z w v y h k = ap (λ q. judged q y) (sym (passed_fault p w v k)) ∙ sym (passed_first o p x z y h)

-- bytes that follow the book at the front, and none
pub bytes_follow : (bs : List ℕ) → book_size bs < length bs → books_fault 0 (drop (book_size bs) bs) ≡ Some Length
bytes_follow bs l =
    cond-true _ _ _ (lt-ltb 0 (length (drop (book_size bs) bs)) (omega (arith, length-drop (book_size bs) bs)))

pub none_follow : (bs : List ℕ) → length bs ≤ book_size bs → books_fault 0 (drop (book_size bs) bs) ≡ None
none_follow bs l =
    cond-false _ _ _ (le-ltb 0 (length (drop (book_size bs) bs)) (omega (arith, length-drop (book_size bs) bs)))

-- no fault of two: none of the first, and none of the second
pub neither_first : (o p : Option Refusal) → otherwise o p ≡ None → o ≡ None
neither_first None p e = refl
neither_first (Some r) p e = absurd (let z : ◌≡◌ {A = ℕ} 0 1 = cc in omega arith)

pub neither_second : (o p : Option Refusal) → otherwise o p ≡ None → p ≡ None
neither_second None p e = e
neither_second (Some r) p e = absurd (let z : ◌≡◌ {A = ℕ} 0 1 = cc in omega arith)

pub fault_free : (b : Bool) → refusal ((not b, Field) ∷ []) ≡ None → b ≡ true
fault_free true e = refl
fault_free false e = absurd (let z : ◌≡◌ {A = ℕ} 0 1 = cc in omega arith)

-- a verdict by one rule: the rule is broken, or it is kept
pub broken : {X : Type 0} (t : Bool) (q e : Refusal) (x : X) → Err e ≡ judged (refusal ((t, q) ∷ [])) x → (t ≡ true) × (e ≡ q)
broken true q e x h = (refl, cc)
broken false q e x h = absurd (let z : ◌≡◌ {A = ℕ} 0 1 = cc in omega arith)

pub kept : {X : Type 0} (t : Bool) (q : Refusal) (x z : X) → Ok z ≡ judged (refusal ((t, q) ∷ [])) x → (t ≡ false) × (z ≡ x)
kept false q x z h = (refl, cc)
kept true q x z h = absurd (let y : ◌≡◌ {A = ℕ} 0 1 = cc in omega arith)

-- a mark or a version that is refused after a rule that is kept, whatever rules follow, and neither refused
by_two : {X Y : Type 0} (t u v : Bool) (q : Refusal) (more : List Rule) (x : X) (y : Y) (e : Refusal) → t ≡ false → Err e ≡ judged (refusal ((u, Mark) ∷ (v, Version) ∷ [])) x → Err e ≡ judged (refusal ((t, q) ∷ (u, Mark) ∷ (v, Version) ∷ more)) y
by_two true u v q more x y e k h = absurd (let z : ◌≡◌ {A = ℕ} 0 1 = cc in omega arith)
by_two false true v q more x y e k h = cc
by_two false false true q more x y e k h = cc
by_two false false false q more x y e k h = absurd (let z : ◌≡◌ {A = ℕ} 0 1 = cc in omega arith)

pub unmarked : {X Y : Type 0} (t : Bool) (q : Refusal) (m bs : List ℕ) (more : List Rule) (x : X) (y : Y) (e : Refusal) → t ≡ false → Err e ≡ judged (mark_fault m bs) x → Err e ≡ judged (refusal ((t, q) ∷ (not (bytes_eq (take 3 bs) m), Mark) ∷ (not (u16_at bs 3 == 1), Version) ∷ more)) y
unmarked t q m bs more x y e k h = by_two t (not (bytes_eq (take 3 bs) m)) (not (u16_at bs 3 == 1)) q more x y e k h

kept_two : {X : Type 0} (t u : Bool) (x z : X) → Ok z ≡ judged (refusal ((t, Mark) ∷ (u, Version) ∷ [])) x → (t ≡ false) × (u ≡ false)
kept_two false false x z h = (refl, refl)
kept_two false true x z h = absurd (let y : ◌≡◌ {A = ℕ} 0 1 = cc in omega arith)
kept_two true u x z h = absurd (let y : ◌≡◌ {A = ℕ} 0 1 = cc in omega arith)

pub marked : {X : Type 0} (m bs : List ℕ) (x z : X) → Ok z ≡ judged (mark_fault m bs) x → (not (bytes_eq (take 3 bs) m) ≡ false) × (not (u16_at bs 3 == 1) ≡ false)
marked m bs x z h = kept_two (not (bytes_eq (take 3 bs) m)) (not (u16_at bs 3 == 1)) x z h
