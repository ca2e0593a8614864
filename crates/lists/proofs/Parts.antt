-- A part of a list that is lent and comes back: what is lent, what is there when it is back, and that every other place is as it was.
-- Of `mid_of` and `put_mid`, which `part` and `put` are, the library has the length (`same_len_mid`), a part put back as it was (`put_same`) and a store in it (`set_mid_at`). Assumes nothing.
use mathlib.Core.Path.{◌≡◌, refl, sym, ap, ◌∙◌}
use mathlib.Core.List.{List, [], ◌∷◌, ◌++◌, append-nil, append_assoc}
use Prim.Native.Nat.{ℕ, zero, suc, ◌+◌, ◌-◌, ◌≤◌, ◌<◌}
use native.Mathlib.Nat.{add-zero, add-sub_of_le}
use native.Mathlib.Omega.{arith}
use lib.ListN.{length, take, drop, get_or, length-append, length-take, length-drop, take-append-drop, drop_of_length-le, get_or-append}
use lib.Seq.{take_all, take-take, take-append-le, drop-append-le, take_at, drop_at, drop-drop, length-take-le, get_or-take, get_or-drop, get_or-append-add}
use Rattle.lists.specs.Part.{part, put}

module _ {A : Type 0} where
  -- ---- a part that runs to the end, as `&s[a..]` and `&mut s[a..]` do with `length xs - a` for k
  pub tail_lent : (a k : ℕ) (xs : List A) → length xs ≤ a + k → part a k xs ≡ drop a xs
  tail_lent a k xs h = take_all k (drop a xs) (simp length-drop (omega arith))

  pub tail_back : (a k : ℕ) (xs ys : List A) → length xs ≤ a + k → put a k xs ys ≡ take a xs ++ ys
  tail_back a k xs ys h = ap (λ (t : List A). take a xs ++ t) (ap (λ (t : List A). ys ++ t) (drop_of_length-le (drop a xs) {i = k} (simp length-drop (omega arith))) ∙ append-nil ys)

  -- ---- a part of a list that is made of others
  pub part_front : (b j : ℕ) (p q : List A) → b + j ≤ length p → part b j (p ++ q) ≡ part b j p
  part_front b j p q h =
      ap (take j) (drop-append-le b p q (omega arith)) ∙ take-append-le j (drop b p) q (simp length-drop (omega arith))

  pub part_back : (b j : ℕ) (p q : List A) → length p ≤ b → part b j (p ++ q) ≡ part (b - length p) j q
  part_back b j p q h =
      ap (take j)
      (ap (λ (n : ℕ). drop n (p ++ q)) (sym (add-sub_of_le h)) ∙ sym (drop-drop (b - length p) (length p) (p ++ q)) ∙ ap (drop (b - length p)) (drop_at p q (length p) refl))

  part_take : (b j k : ℕ) (xs : List A) → b + j ≤ k → part b j (take k xs) ≡ part b j xs
  part_take zero j k xs h = take-take j k xs (omega arith)
  part_take (suc b) j zero xs h = absurd (omega arith)
  part_take (suc b) j (suc k) [] h = refl
  part_take (suc b) j (suc k) (x ∷ xs) h = part_take b j k xs (omega arith)

  -- a part of a part
  pub part_part : (a k b j : ℕ) (xs : List A) → b + j ≤ k → part b j (part a k xs) ≡ part (a + b) j xs
  part_part a k b j xs h = part_take b j k (drop a xs) h ∙ ap (take j) (drop-drop b a xs)

  pub part_length : (a k : ℕ) (xs : List A) → a + k ≤ length xs → length (part a k xs) ≡ k
  part_length a k xs h = length-take-le k (drop a xs) (simp length-drop (omega arith))

  pub part_at : (a k : ℕ) (xs : List A) (i : ℕ) (d : A) → i < k → get_or (part a k xs) i d ≡ get_or xs (a + i) d
  part_at a k xs i d h = get_or-take k (drop a xs) i d h ∙ get_or-drop a xs i d

  first_at : (xs : List A) (i : ℕ) (d : A) → get_or (drop i xs) 0 d ≡ get_or xs i d
  first_at xs i d = get_or-drop i xs 0 d ∙ ap (λ (n : ℕ). get_or xs n d) (add-zero i)

  -- ---- the list when the part is back
  -- in a line: what stood before, the part, what stood behind
  pub put_line : (a k : ℕ) (xs ys : List A) → put a k xs ys ≡ take a xs ++ ys ++ drop (a + k) xs
  put_line a k xs ys = rw (drop-drop k a xs) (sym (append_assoc (take a xs) ys (drop (a + k) xs)))

  module _ (a k : ℕ) (xs ys : List A) (inside : a ≤ length xs) where
    -- the part itself
    pub part_put : length ys ≡ k → part a k (put a k xs ys) ≡ ys
    part_put h = ap (take k) (drop_at (take a xs) (ys ++ drop k (drop a xs)) a (length-take-le a xs inside)) ∙ take_at ys (drop k (drop a xs)) k h

    -- a part before it, and one behind it
    pub part_put_before : (b j : ℕ) → b + j ≤ a → part b j (put a k xs ys) ≡ part b j xs
    part_put_before b j h =
        let l : b + j ≤ length (take a xs) = simp length-take (omega arith) in
        part_front b j (take a xs) (ys ++ drop k (drop a xs)) l ∙ sym (part_front b j (take a xs) (drop a xs) l) ∙ ap (part b j) (take-append-drop a xs)

    put_drop : (b : ℕ) → length ys ≡ k → a + k ≤ b → drop b (put a k xs ys) ≡ drop b xs
    put_drop b h l =
        let e : a + k + (b - (a + k)) ≡ b = add-sub_of_le l in
        let m : length (take a xs ++ ys) ≡ a + k = rw (length-append, length-take-le a xs inside, h) in
        ap (drop b) (put_line a k xs ys)
        ∙ ap (λ (n : ℕ). drop n (take a xs ++ ys ++ drop (a + k) xs)) (sym e)
        ∙ sym (drop-drop (b - (a + k)) (a + k) (take a xs ++ ys ++ drop (a + k) xs))
        ∙ ap (drop (b - (a + k))) (drop_at (take a xs ++ ys) (drop (a + k) xs) (a + k) m)
        ∙ drop-drop (b - (a + k)) (a + k) xs
        ∙ ap (λ (n : ℕ). drop n xs) e

    pub part_put_behind : (b j : ℕ) → length ys ≡ k → a + k ≤ b → part b j (put a k xs ys) ≡ part b j xs
    part_put_behind b j h l = ap (take j) (put_drop b h l)

    -- the places before it, in it and behind it
    pub put_before : (i : ℕ) (d : A) → i < a → get_or (put a k xs ys) i d ≡ get_or xs i d
    put_before i d h = get_or-append (take a xs) (ys ++ drop k (drop a xs)) d i (simp length-take (omega arith)) ∙ get_or-take a xs i d h

    pub put_within : (i : ℕ) (d : A) → i < length ys → get_or (put a k xs ys) (a + i) d ≡ get_or ys i d
    put_within i d h =
        ap (λ (n : ℕ). get_or (put a k xs ys) (n + i) d) (sym (length-take-le a xs inside))
        ∙ get_or-append-add (take a xs) (ys ++ drop k (drop a xs)) i d
        ∙ get_or-append ys (drop k (drop a xs)) d i h

    pub put_behind : (i : ℕ) (d : A) → length ys ≡ k → a + k ≤ i → get_or (put a k xs ys) i d ≡ get_or xs i d
    put_behind i d h l = sym (first_at (put a k xs ys) i d) ∙ ap (λ (t : List A). get_or t 0 d) (put_drop i h l) ∙ first_at xs i d

  -- ---- parts that are written from the last to the first: the last is `tail_back`, and for each other mem is m with all from b on written already
  pub placed : (m mem rest q : List A) (a k b : ℕ) → mem ≡ take b m ++ rest → a + k ≡ b → b ≤ length m → put a k mem q ≡ take a m ++ (q ++ rest)
  placed m mem rest q a k b e h l =
      let f : take a mem ≡ take a m = ap (take a) e ∙ take-append-le a (take b m) rest (simp length-take (omega arith)) ∙ take-take a b m (omega arith) in
      let g : drop k (drop a mem) ≡ rest = drop-drop k a mem ∙ ap (λ (n : ℕ). drop n mem) h ∙ ap (drop b) e ∙ drop_at (take b m) rest b (length-take-le b m l) in
      ap (λ (t : List A). t ++ (q ++ drop k (drop a mem))) f ∙ ap (λ (t : List A). take a m ++ (q ++ t)) g
