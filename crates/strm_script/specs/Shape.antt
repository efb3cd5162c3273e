-- Shapes: a line's number of arguments, each with its own form. A wrong number of arguments is the fault `Shape`; otherwise the
-- first argument that does not fit its form has the fault.
use Rattle.std.specs.Prelude.{ℕ, List, [], ◌∷◌, Result, Ok, Err}
use Rattle.strm_script.specs.declared.fault.Kind.{Kind}
use Rattle.strm_script.specs.declared.fault.Kind.TheVariants.{Shape}

-- what a word means, or its fault
abbrev pub Form : Type 0 → Type 0
Form A = List ℕ → Result A Kind

-- the second reading goes on from the result of the first; the first fault counts
infixl 10 ◌>>=◌
abbrev pub ◌>>=◌ : {A B : Type 0} → Result A Kind → (A → Result B Kind) → Result B Kind
(Ok x) >>= f = f x
(Err kind) >>= f = Err kind

-- ---- reading a number of arguments

abbrev pub read_none : List (List ℕ) → Result (Unit {0}) Kind
read_none [] = Ok tt
read_none (a ∷ ws) = Err Shape

abbrev pub read_one : {A : Type 0} → Form A → List (List ℕ) → Result A Kind
read_one f (a ∷ []) = f a
read_one f _ = Err Shape

abbrev pub read_two : {A B : Type 0} → Form A → Form B → List (List ℕ) → Result (A × B) Kind
read_two f g (a ∷ b ∷ []) = do
  x ← f a
  y ← g b
  Ok (x, y)
read_two f g _ = Err Shape

abbrev pub read_three : {A B C : Type 0} → Form A → Form B → Form C → List (List ℕ) → Result (A × B × C) Kind
read_three f g h (a ∷ b ∷ c ∷ []) = do
  x ← f a
  y ← g b
  z ← h c
  Ok (x, y, z)
read_three f g h _ = Err Shape

abbrev pub read_four : {A B C D : Type 0} → Form A → Form B → Form C → Form D → List (List ℕ) → Result (A × B × C × D) Kind
read_four f g h i (a ∷ b ∷ c ∷ d ∷ []) = do
  x ← f a
  y ← g b
  z ← h c
  w ← i d
  Ok (x, y, z, w)
read_four f g h i _ = Err Shape

-- ---- making something from them

abbrev pub none : {X : Type 0} → X → List (List ℕ) → Result X Kind
none made ws = read_none ws >>= (λ _. Ok made)

abbrev pub one : {A X : Type 0} → Form A → (A → X) → List (List ℕ) → Result X Kind
one f make ws = read_one f ws >>= (λ x. Ok (make x))

abbrev pub two : {A B X : Type 0} → Form A → Form B → (A → B → X) → List (List ℕ) → Result X Kind
two f g make ws = read_two f g ws >>= (λ p. Ok (make p.0 p.1))

abbrev pub three : {A B C X : Type 0} → Form A → Form B → Form C → (A → B → C → X) → List (List ℕ) → Result X Kind
three f g h make ws = read_three f g h ws >>= (λ p. Ok (make p.0 p.1 p.2))

abbrev pub four : {A B C D X : Type 0} → Form A → Form B → Form C → Form D → (A → B → C → D → X) → List (List ℕ) → Result X Kind
four f g h i make ws = read_four f g h i ws >>= (λ p. Ok (make p.0 p.1 p.2 p.3))
