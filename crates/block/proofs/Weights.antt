-- The weighted sums of two lists, over a stretch where they agree and over a position where they need not.
use mathlib.Core.Path.{◌≡◌, refl, sym, ap, subst}
use mathlib.Core.List.{List}
use Prim.Native.Nat.{ℕ, zero, suc, ◌+◌, ◌-◌, ◌*◌, ◌≤◌, ◌<◌}
use native.Mathlib.Nat.{add-zero, add-suc}
use native.Mathlib.Omega.{arith}
use Rattle.block.specs.Bytes.{byte_at, weighted}

module _ (x y : List ℕ) where
  -- the sums to n, made equal by u and v
  abbrev pub Even : ℕ → ℕ → ℕ → Type 0
  Even n u v = weighted x n + u ≡ weighted y n + v

  along : (d m u v : ℕ) → ((k : ℕ) → m ≤ k → k < m + d → byte_at x k ≡ byte_at y k) → Even m u v → Even (m + d) u v
  unfolding weighted
  along zero m u v h e = subst (λ (n : ℕ). Even n u v) (sym (add-zero m)) e
  along (suc d) m u v h e =
      let r : Even (m + d) u v = along d m u v (λ k l n. h k l (omega arith)) e in
      let b : byte_at x (m + d) * (m + d + 1) ≡ byte_at y (m + d) * (m + d + 1) = ap (λ (z : ℕ). z * (m + d + 1)) (h (m + d) (omega arith) (omega arith)) in
      subst (λ (n : ℕ). Even n u v) (sym (add-suc m d)) (omega arith)

  to : (m n u v : ℕ) → m ≤ n → ((k : ℕ) → m ≤ k → k < n → byte_at x k ≡ byte_at y k) → Even m u v → Even n u v
  to m n u v l h e =
      let q : m + (n - m) ≡ n = omega arith in
      subst (λ (k : ℕ). Even k u v) q (along (n - m) m u v (λ k i j. h k i (omega arith)) e)

  pub even-below : (n : ℕ) → ((k : ℕ) → k < n → byte_at x k ≡ byte_at y k) → Even n 0 0
  unfolding weighted
  even-below n h = to 0 n 0 0 (omega arith) (λ k l m. h k m) refl

  -- past i, where they need not agree
  pub over : (i n u v : ℕ) → i < n → ((k : ℕ) → i < k → k < n → byte_at x k ≡ byte_at y k) → Even i u v → Even n (u + byte_at y i * (i + 1)) (v + byte_at x i * (i + 1))
  unfolding weighted
  over i n u v l h e =
      let p : Even (suc i) (u + byte_at y i * (i + 1)) (v + byte_at x i * (i + 1)) = omega arith in
      to (suc i) n _ _ l h p

  pub same-weight : (n : ℕ) → ((k : ℕ) → k < n → byte_at x k ≡ byte_at y k) → weighted x n ≡ weighted y n
  same-weight n h = let e : Even n 0 0 = even-below n h in omega arith
