-- A weight of links that falls from a link to those on a path that makes it redundant.
use Rattle.std.proofs.Common.{◌≡◌, ℕ, ◌+◌, ◌*◌, ◌<◌, ◌≤◌, ◌⊎◌, List, sym, ap, inl, inr, arith}
use Rattle.std.proofs.lemmas.Bool.{cases_lt}
use Rattle.records.specs.declared.tables.Edge.{Edge}
use Rattle.waits.specs.Counting.{count}
use Rattle.waits.specs.Events.{In, Within, Live, Path}
use Rattle.waits.proofs.Paths.{path_joined}
use Rattle.waits.specs.Walks.{Stop}
use Rattle.meaning.proofs.Tallies.{count_at_most, count_less}
use Rattle.meaning.proofs.Free.{free, free_if_path, path_if_free}
use Rattle.meaning.proofs.Twins.{same_edge}

-- no edge, or a path
abbrev pub Way : List Edge → ℕ → ℕ → ℕ → Type 0
Way es u v t = Stop u v t ⊎ Path es u v t

module _ (n : ℕ) (es : List Edge) (within : Within n es) (live : Live es) where
  -- how many actors u reaches without delay
  ahead : ℕ → ℕ
  ahead u = count (λ x. free n es within u x) n

  -- how many actors reach v without delay
  behind : ℕ → ℕ
  behind v = count (λ x. free n es within x v) n

  ahead_falls : (u w : ℕ) → u < n → w < n → Way es u w 0 → (u ≡ w) ⊎ (ahead w < ahead u)
  unfolding ahead
  ahead_falls u w hu hw (inl s) = inl s.0
  ahead_falls u w hu hw (inr p) =
      inr (count_less (λ x. free n es within w x) (λ x. free n es within u x) n
      (λ x l t. free_if_path n es within u x hu l (path_joined p (path_if_free n es within w x hw l t)))
      w hw (λ t. live w (path_if_free n es within w w hw hw t)) (free_if_path n es within u w hu hw p))

  behind_falls : (w v : ℕ) → w < n → v < n → Way es w v 0 → (w ≡ v) ⊎ (behind w < behind v)
  unfolding behind
  behind_falls w v hw hv (inl s) = inl s.0
  behind_falls w v hw hv (inr p) =
      inr (count_less (λ x. free n es within x w) (λ x. free n es within x v) n
      (λ x l t. free_if_path n es within x v l hv (path_joined (path_if_free n es within x w l hw t) p))
      w hw (λ t. live w (path_if_free n es within w w hw hw t)) (free_if_path n es within w v hw hv p))

  ahead_le : (u : ℕ) → ahead u ≤ n
  unfolding ahead
  ahead_le u = count_at_most (λ x. free n es within u x) n

  behind_le : (v : ℕ) → behind v ≤ n
  unfolding behind
  behind_le v = count_at_most (λ x. free n es within x v) n

  -- by delay, then by how many are ahead of the sender, then by how many are behind the receiver, then by number
  pub weight : Edge → ℕ → ℕ
  weight e i = e.delay * 2163200 + ahead e.sender * 33280 + behind e.receiver * 512 + i

  -- the link with number j, on a path of at most the delay of link i, weighs less, unless it is a twin of no lower number
  pub weight_falls : n ≤ 64 → (e f : Edge) (i j : ℕ) → In e es → In f es → j < 512 → (e ≡ f → j < i) → (c t : ℕ)
      → Way es e.sender f.sender c → Way es f.receiver e.receiver t → c + f.delay + t ≤ e.delay → weight f j < weight e i
  unfolding weight
  weight_falls small e f i j he hf lj low c t before after total =
      let el = ahead_le f.sender in let bl = behind_le f.receiver in
      elim (cases_lt f.delay e.delay) [
        | inl l ↦ omega arith
        | inr l ↦
            let zc : c ≡ 0 = omega arith in let zt : t ≡ 0 = omega arith in
            elim (ahead_falls e.sender f.sender (within e he).0 (within f hf).0 (rw zc at before)) [
              | inr a ↦ omega arith
              | inl s ↦ elim (behind_falls f.receiver e.receiver (within f hf).1 (within e he).1 (rw zt at after)) [
                | inr b ↦ omega (arith, ap ahead s)
                | inl r ↦ omega (arith, ap ahead s, ap behind r, low (same_edge e f s (sym r) (omega arith)))
              ]
            ]
      ]
