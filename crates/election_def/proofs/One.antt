-- A value describes one election at most.
use Rattle.std.proofs.Common.{◌≡◌, ◌↔◌, ℕ, suc, inl, inr, Result, Ok, Err, IsSome, List, [], ◌∷◌, length, Option, None, Some, refl, sym, ap, ap₂, ◌∙◌, subst}
use Rattle.store_spec.proofs.Common.{Contest, Election, IfOk, IfSome, IsElection, codes, in_version, most_choices, none-some, same_Some}
use Rattle.std.specs.Prelude.{IsSomeAnd, option_and_then}
use Rattle.std.specs.Result.{result_ok}
use Rattle.serde_json.specs.Data.{Data}
use Rattle.serde_json.specs.Find.{get, as_array, as_str}
use Rattle.serde_json.specs.Read.{read}
use Rattle.election_def.proofs.Salts.{one_salt}
use Rattle.election_def.specs.Text.{HasNoKeyBut, election_keys, array_items, number_in, number_by_key, contest_set, IsArrayOf, IsContestIn, IsStyleIn, IsSaltText, IsVersionIn, IsElectionIn, Describes}
use Rattle.ballot_record.specs.Contest.{contests_of}
use Rattle.ballot_record.specs.declared.contest.Contest as program
use Rattle.election_def.proofs.Zips.{one_list}

-- both facts speak of the same value
pub both : {A B : Type 0} (o : Option A) (P Q : A → Type 0) → IsSomeAnd o P → IsSomeAnd o Q → ((x : A) → P x → Q x → B) → B
both None P Q p q f = absurd p
both (Some x) P Q p q f = f x p q

pub one_array : {A : Type 0} (R : Data → A → Type 0) → ((x : Data) (y z : A) → R x y → R x z → y ≡ z) → (d : Data) (xs ys : List A) → IsArrayOf R xs d → IsArrayOf R ys d → xs ≡ ys
one_array R one d xs ys all more = both (as_array d) _ _ all more (λ items a b. one_list R one (array_items items) xs ys a b)

same_number : (o : Option ℕ) (m n : ℕ) → o ≡ Some m → o ≡ Some n → m ≡ n
same_number o m n p q = same_Some m n (sym p ∙ q)

-- the most choices of a version
same_most : (v w : ℕ) → v ≡ w → in_version v 32 64 ≡ in_version w 32 64
same_most v w same = ap (λ n. in_version n 32 64) same

-- where there is nothing, there is no number
none_number : (o : Option Data) (n : ℕ) → o ≡ None → option_and_then number_in o ≡ Some n → ⊥
none_number o n none some = none-some n (sym (ap (option_and_then number_in) none) ∙ some)

pub one_contest : (most : ℕ) (d : Data) (a b : Contest) → IsContestIn most d a → IsContestIn most d b → a ≡ b
one_contest most d a b x y =
    let make : ℕ → ℕ → Contest = λ choices allowed. record { choices = choices; allowed = allowed } in
    ap₂ make (same_number (number_by_key (codes "choices") d) a.choices b.choices x.choices y.choices) (same_number (number_by_key (codes "allowed") d) a.allowed b.allowed x.allowed y.allowed)

pub one_style : (contests : ℕ) (d : Data) (s t : ℕ) → IsStyleIn contests d s → IsStyleIn contests d t → s ≡ t
one_style contests d s t x y =
    x.set ∙ ap contest_set (one_array (λ item k. number_in item ≡ Some k) (λ item j k p q. same_number (number_in item) j k p q) d x.numbers y.numbers x.are y.are) ∙ sym y.set

pub same_version : (d : Data) (v w : ℕ) → IsVersionIn d v → IsVersionIn d w → v ≡ w
same_version d v w (inl x) (inl y) = same_number (number_by_key (codes "version") d) v w x y
same_version d v w (inl x) (inr (none, one)) = absurd (none_number (get (codes "version") d) v none x)
same_version d v w (inr (none, one)) (inl y) = absurd (none_number (get (codes "version") d) w none y)
same_version d v w (inr x) (inr y) = x.1 ∙ sym y.1

-- the contests of so many choices at most that stand at the key
abbrev pub AreContestsAt : ℕ → List Contest → Data → Type 0
AreContestsAt most xs d = IsSomeAnd (get (codes "contests") d) (IsArrayOf (IsContestIn most) xs)

pub same_contests : (d : Data) (m n : ℕ) (xs ys : List Contest) → m ≡ n → AreContestsAt m xs d → AreContestsAt n ys d → xs ≡ ys
same_contests d m n xs ys same x y =
    let P : ℕ → Type 0 = λ most. AreContestsAt most xs d in
    both (get (codes "contests") d) _ _ (subst P same x) y (λ v a b. one_array (IsContestIn n) (one_contest n) v xs ys a b)

-- what a value says of the parts of an election, whether that is valid or not
pub record AreParts (d : Data) (e : Election) : Type 0 where
  pub version : IsVersionIn d e.version
  pub contests : AreContestsAt (most_choices e) e.contests d
  pub styles : IsSomeAnd (get (codes "styles") d) (IsArrayOf (IsStyleIn (length e.contests)) e.styles)
  pub limit : number_by_key (codes "limit") d ≡ Some e.limit
  pub bits : number_by_key (codes "bits") d ≡ Some e.bits
  pub salt : IsSomeAnd (option_and_then as_str (get (codes "salt") d)) (λ text. IsSaltText text e.salt)

pub parts_of : (d : Data) (e : Election) → IsElectionIn d e → AreParts d e
parts_of d e is = record { version = is.version; contests = is.contests; styles = is.styles; limit = is.limit; bits = is.bits; salt = is.salt }

-- where an election comes of the parts, the value describes it
pub described : {E : Type 0} (d : Data) (e : Election) (o : Option Election) (r : Result Election E) → HasNoKeyBut election_keys d → AreParts d e
    → (IsSome o ↔ IsElection e) → IfSome o (λ election. election ≡ e) → o ≡ result_ok r → IfOk r (λ election. IsElectionIn d election)
described d e o (Err fault) keys parts valid is made = tt
described d e None (Ok f) keys parts valid is made = absurd (none-some f made)
described d e (Some g) (Ok f) keys parts valid is made =
    let whole : IsElectionIn d e = record {
      no_other_key = keys;
      version = parts.version;
      contests = parts.contests;
      styles = parts.styles;
      limit = parts.limit;
      bits = parts.bits;
      salt = parts.salt;
      valid = valid.0 refl;
    } in
    subst (IsElectionIn d) (sym is ∙ same_Some g f made) whole

pub same_parts : (d : Data) (e f : Election) → AreParts d e → AreParts d f → e ≡ f
same_parts d e f x y =
    let version : e.version ≡ f.version = same_version d e.version f.version x.version y.version in
    let contests : e.contests ≡ f.contests = same_contests d (most_choices e) (most_choices f) e.contests f.contests (same_most e.version f.version version) x.contests y.contests in
    let P : List Contest → Type 0 = λ contests. IsSomeAnd (get (codes "styles") d) (IsArrayOf (IsStyleIn (length contests)) e.styles) in
    let styles : e.styles ≡ f.styles = both (get (codes "styles") d) _ _ (subst P contests x.styles) y.styles (λ v a b. one_array (IsStyleIn (length f.contests)) (one_style (length f.contests)) v e.styles f.styles a b) in
    let limit : e.limit ≡ f.limit = same_number (number_by_key (codes "limit") d) e.limit f.limit x.limit y.limit in
    let bits : e.bits ≡ f.bits = same_number (number_by_key (codes "bits") d) e.bits f.bits x.bits y.bits in
    let salt : e.salt ≡ f.salt = both (option_and_then as_str (get (codes "salt") d)) _ _ x.salt y.salt (λ text a b. one_salt text _ _ a b) in
    let step_1 : ◌≡◌ {A = Election} e (record e { contests = f.contests; styles = f.styles }) = ap₂ (λ (c : List Contest) (s : List ℕ). let g : Election = record e { contests = c; styles = s } in g) contests styles in
    let step_2 : ◌≡◌ {A = Election} (record e { contests = f.contests; styles = f.styles }) (record f { version = e.version; salt = e.salt }) = ap₂ (λ (l b : ℕ). let g : Election = record f { version = e.version; limit = l; bits = b; salt = e.salt } in g) limit bits in
    let step_3 : ◌≡◌ {A = Election} (record f { version = e.version; salt = e.salt }) (record f { salt = e.salt }) = ap (λ (n : ℕ). let g : Election = record f { version = n; salt = e.salt } in g) version in
    step_1 ∙ step_2 ∙ step_3 ∙ ap (λ (s : ℕ). let g : Election = record f { salt = s } in g) salt

-- the contests of the version that the value says are those of the election that it describes
pub contests_of_version : (d : Data) (version : ℕ) (xs : List Contest) (e : Election) → IsVersionIn d version → AreContestsAt (in_version version 32 64) xs d → IsElectionIn d e → e.contests ≡ xs
contests_of_version d version xs e at are is =
    same_contests d (most_choices e) (in_version version 32 64) e.contests xs (same_most e.version version (same_version d e.version version is.version at)) is.contests are

pub no_styles : (d : Data) (version : ℕ) (xs : List Contest) → IsVersionIn d version → AreContestsAt (in_version version 32 64) xs d → IsSomeAnd (get (codes "styles") d) (λ v. (ss : List ℕ) → IsArrayOf (IsStyleIn (length xs)) ss v → ⊥)
    → (e : Election) → IsElectionIn d e → ⊥
no_styles d version xs at are none e is =
    let contests : e.contests ≡ xs = contests_of_version d version xs e at are is in
    let P : List Contest → Type 0 = λ contests. IsSomeAnd (get (codes "styles") d) (IsArrayOf (IsStyleIn (length contests)) e.styles) in
    both (get (codes "styles") d) _ _ none (subst P contests is.styles) (λ v no some. no e.styles some)

pub one_election : (bytes : List ℕ) (e f : Election) → Describes bytes e → Describes bytes f → e ≡ f
one_election bytes e f x y = both (read bytes) _ _ x.value y.value (λ d a b. same_parts d e f (parts_of d e a) (parts_of d f b))

pub are_styles : (d v : Data) (count contests : ℕ) (ss : List ℕ) → Some v ≡ get (codes "styles") d → count ≡ contests → IsArrayOf (IsStyleIn count) ss v → IsSomeAnd (get (codes "styles") d) (IsArrayOf (IsStyleIn contests) ss)
are_styles d v count contests ss at same all =
    let P : Option Data → Type 0 = λ o. IsSomeAnd o (IsArrayOf (IsStyleIn contests) ss) in
    let Q : ℕ → Type 0 = λ n. IsArrayOf (IsStyleIn n) ss v in
    subst P at (subst Q same all)

pub no_styles_at : (d v : Data) (count contests : ℕ) → Some v ≡ get (codes "styles") d → count ≡ contests → ((ss : List ℕ) → IsArrayOf (IsStyleIn count) ss v → ⊥)
    → IsSomeAnd (get (codes "styles") d) (λ v. (ss : List ℕ) → IsArrayOf (IsStyleIn contests) ss v → ⊥)
no_styles_at d v count contests at same none =
    let P : Option Data → Type 0 = λ o. IsSomeAnd o (λ v. (ss : List ℕ) → IsArrayOf (IsStyleIn contests) ss v → ⊥) in
    let Q : ℕ → Type 0 = λ n. (ss : List ℕ) → IsArrayOf (IsStyleIn n) ss v → ⊥ in
    subst P at (subst Q same none)

pub contest_count : (contests : List program.Contest) → length (contests_of contests) ≡ length contests
contest_count [] = refl
contest_count (contest ∷ contests) = ap suc (contest_count contests)
