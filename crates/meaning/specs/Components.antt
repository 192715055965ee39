-- Groups and parts of a drawing, and the back links that make each part one group, in the words of the subject.
use Rattle.std.specs.Prelude.{◌≡◌, ℕ, ◌<◌, ◌≤◌, ◌⊎◌, List, [], ◌∷◌, ◌++◌, length, slice_index_or}
use Rattle.records.specs.declared.tables.Actor.{Actor}
use Rattle.records.specs.declared.tables.Edge.{Edge}
use Rattle.records.specs.Tables.{no_actor, edge}
use Rattle.waits.specs.Events.{In, Path}

-- some path leads from u to v
abbrev pub Reaches : List Edge → ℕ → ℕ → Type 0
Reaches es u v = (t : ℕ) × Path es u v t

-- u and v are in one group: groups are the largest sets of actors that all reach one another
abbrev pub Group : List Edge → ℕ → ℕ → Type 0
Group es u v = Reaches es u v × Reaches es v u

-- u and v are in one part: they are joined when direction is ignored
pub data Joined (es : List Edge) : ℕ → ℕ → Type 0 where
  along : {u v : ℕ} (d : ℕ) → In (edge u v d) es → Joined es u v
  against : {u v : ℕ} (d : ℕ) → In (edge u v d) es → Joined es v u
  on : {u w v : ℕ} → Joined es u w → Joined es w v → Joined es u v

-- no edge from outside enters the group of u
abbrev pub Entry : List Edge → ℕ → Type 0
Entry es u = (e : Edge) → In e es → Group es u e.receiver → Group es u e.sender

-- no edge leaves the group of u
abbrev pub Exit : List Edge → ℕ → Type 0
Exit es u = (e : Edge) → In e es → Group es u e.sender → Group es u e.receiver

-- u is the lowest of the actors below n that share its group, or its part
abbrev pub Lowest : ℕ → (ℕ → ℕ → Type 0) → ℕ → Type 0
Lowest n Shares u = (w : ℕ) → w < n → Shares u w → u ≤ w

-- the part of p has an actor outside the group of p
abbrev pub Several : ℕ → List Edge → ℕ → Type 0
Several n es p = (w : ℕ) × (w < n) × Joined es p w × (Group es p w → ⊥)

abbrev pub estimate_of : List Actor → ℕ → ℕ
estimate_of actors u = (slice_index_or actors u no_actor).estimate

-- w stands for the group of u: it has the least estimate there, and is the lowest that has it
pub record Stands (actors : List Actor) (es : List Edge) (u w : ℕ) : Type 0 where
  pub below : w < length actors
  pub inside : Group es u w
  pub least : (x : ℕ) → x < length actors → Group es u x → estimate_of actors w ≤ estimate_of actors x
  pub lowest : (x : ℕ) → x < length actors → Group es u x → estimate_of actors x ≡ estimate_of actors w → w ≤ x

-- u is one of us
abbrev pub Among : ℕ → List ℕ → Type 0
Among u [] = ⊥
Among u (v ∷ us) = (u ≡ v) ⊎ Among u us

-- each number is smaller than those after it
abbrev pub Rises : List ℕ → Type 0
Rises [] = Unit {0}
Rises (u ∷ us) = ((v : ℕ) → Among v us → u < v) × Rises us

-- us are the numbers below n with P, rising
pub record Rising (n : ℕ) (P : ℕ → Type 0) (us : List ℕ) : Type 0 where
  pub rises : Rises us
  pub each : (u : ℕ) → Among u us → (u < n) × P u
  pub all : (u : ℕ) → u < n → P u → Among u us

-- edges of delay 0 from the actor that stands for each of us to the one that stands for the next
abbrev pub chained : (ℕ → ℕ) → List ℕ → List Edge
chained stand [] = []
chained stand (u ∷ []) = []
chained stand (u ∷ v ∷ us) = edge (stand u) (stand v) 0 ∷ chained stand (v ∷ us)

-- ls are the back links of the part of p: they chain its entry groups, each taken by its lowest actor, and its exit groups,
-- and lead, with the lead as delay, from the last exit group to the first entry group
pub record PartLinks (actors : List Actor) (es : List Edge) (lead p : ℕ) (ls : List Edge) : Type 0 where
  pub stand : ℕ → ℕ
  pub stands : (u : ℕ) → u < length actors → Lowest (length actors) (Group es) u → Stands actors es u (stand u)
  pub first : ℕ
  pub others : List ℕ
  pub entries : Rising (length actors) (λ u. Joined es p u × Lowest (length actors) (Group es) u × Entry es u) (first ∷ others)
  pub before : List ℕ
  pub last : ℕ
  pub exits : Rising (length actors) (λ u. Joined es p u × Lowest (length actors) (Group es) u × Exit es u) (before ++ (last ∷ []))
  pub links : ls ≡ chained stand (first ∷ others) ++ (chained stand (before ++ (last ∷ [])) ++ (edge (stand last) (stand first) lead ∷ []))

-- ls are the lists that Links has for each of ps, one after the other
abbrev pub InTurn : (ℕ → List Edge → Type 0) → List ℕ → List Edge → Type 0
InTurn Links [] ls = ls ≡ []
InTurn Links (p ∷ ps) ls = (ks : List Edge) × (rest : List Edge) × Links p ks × InTurn Links ps rest × (ls ≡ ks ++ rest)

-- ls are the back links: those of each part of several groups, by the parts' lowest actors
pub record BackLinks (actors : List Actor) (es : List Edge) (lead : ℕ) (ls : List Edge) : Type 0 where
  pub parts : List ℕ
  pub several : Rising (length actors) (λ p. Lowest (length actors) (Joined es) p × Several (length actors) es p) parts
  pub links : InTurn (PartLinks actors es lead) parts ls
