-- The pages of a bank, written one after another behind a closed gate.
use Rattle.std.proofs.Common.{◌≡◌, ℕ, ◌+◌, ◌-◌, ◌≤◌, List, ◌++◌, length, max, take, drop, Option, Some, None, refl, sym, ◌∙◌, ap, subst, inr, arith}
use Rattle.store_spec.proofs.Common.{Ballot, Election, Err, IfSome, IsBallotSet, IsElection, IsSome, IsTorn, IsWithinLimit, KeepsCrashImages, LeavesOnly, Ok, OnOk, Result, TearsAtMost, bank_size, image_of, is_some, length-drop, length-take, option_map, overwritten, slice_range, take-add, take_all}
use Rattle.bank_medium.proofs.Parts.{within_range}
use Rattle.bank_medium.specs.Banks.{bank_named, place_of, HasOpen, LeavesUnread}
use Rattle.bank_medium.specs.declared.place.Bank.{Bank}
use Rattle.body_store.specs.Contents.{Contents, IsStored}
use Rattle.crash_disk.proofs.Moments.{goes_on_same, goes_on_write, started, torn-after_same}
use Rattle.crash_disk.proofs.TornBytes.{overwritten-next, overwritten-same}
use Rattle.crash_disk.specs.SeenIsImage.{length-overwritten}
use Rattle.checkpoint.proofs.Renewing.{torn_bank_gate}
use Rattle.image_builder.proofs.Held.{image_fits}
use Rattle.store_spec.specs.Disk.{LeavesTorn}

-- what a store's election and set are under another name of the election
pub record Fits (e : Election) (ballots : List Ballot) : Type 0 where
  pub election : IsElection e
  pub set : IsBallotSet e ballots
  pub within_limit : IsWithinLimit e ballots
  pub long : length (image_of e ballots) ≡ bank_size e

pub stored_fits : (e : Election) (store : Contents) → e ≡ store.election → IsStored store → Fits e store.ballots
stored_fits e store own stored =
    subst (λ (x : Election). Fits x store.ballots) (sym own)
    (record { election = stored.election; set = stored.set; within_limit = stored.within_limit; long = image_fits store.election store.ballots stored.election stored.set stored.within_limit })

-- what holds on Ok, and what follows of it
pub on_ok : {T E Q : Type 0} (P : Type 0) (result : Result T E) → OnOk result P → (P → Q) → OnOk result Q
on_ok P (Ok x) so h = h so
on_ok P (Err x) so h = so

-- bytes that are told
pub some_of : {A : Type 0} (o : Option A) → IsSome o → (x : A) × (o ≡ Some x)
some_of None is = absurd cc
some_of (Some x) is = (x, refl)

pub told_back : {A : Type 0} (a b : Option A) (y : A) → is_some b ≡ is_some a → b ≡ Some y → (x : A) × (a ≡ Some x)
told_back (Some x) b y told is = (x, refl)
told_back None None y told is = absurd cc
told_back None (Some z) y told is = absurd cc

-- a page that stands there already, as if it were written
pub page_same : (seen : Option (List ℕ)) (page : List ℕ) (p n at k : ℕ) → at + k ≤ n → length page ≡ k
    → IfSome seen (λ bytes. page ≡ slice_range (slice_range bytes p (p + n)) at (at + k))
    → seen ≡ option_map (overwritten (p + at) page) seen
page_same None page p n at k within size read = refl
page_same (Some bytes) page p n at k within size read =
    let there : page ≡ slice_range bytes (p + at) (p + at + k) = read ∙ sym (within_range p n at k bytes within) in
    ap Some (sym (overwritten-same (p + at) k page bytes size there))

-- what was written is told where the first bytes are
pub written_told : (now first : Option (List ℕ)) (f : List ℕ → List ℕ) → now ≡ option_map f first → is_some now ≡ is_some first
written_told now None f written = ap is_some written
written_told now (Some x) f written = ap is_some written

-- the next page begins within the bytes or at their end
pub pages_begin : (now first : Option (List ℕ)) (xs : List ℕ) (p at : ℕ) → length xs ≡ at → ((x : List ℕ) → first ≡ Some x → p ≤ length x)
    → now ≡ option_map (overwritten p xs) first → (y : List ℕ) → now ≡ Some y → p + at ≤ length y
pages_begin now None xs p at long begins written y is = let none : Some y ≡ None = sym is ∙ written in absurd (let no : ⊥ = cc in no)
pages_begin now (Some x) xs p at long begins written y is =
    let same : Some y ≡ Some (overwritten p xs x) = sym is ∙ written in
    let bytes : y ≡ overwritten p xs x = cc in
    let size : length y ≡ max (length x) (p + length xs) = ap length bytes ∙ length-overwritten p xs x (begins x refl) in
    omega arith

module _ {D : Type 0} (calls : D → ℕ) (may_leave : D → ℕ → List ℕ → Type 0) (seen : D → Option (List ℕ)) (e : Election) (bank : Bank) where
  -- while pages are written the gate stays closed
  pub unread_torn : (start : List ℕ) (disk : D) → ¬ HasOpen e bank start → LeavesTorn calls may_leave (place_of e bank) (bank_size e) start disk → LeavesUnread calls may_leave e bank disk
  unread_torn start disk shut torn c left = inr (λ opened. shut (sym (torn_bank_gate e (bank_named bank) start c (torn c left)) ∙ opened))

  -- whether the disk tells its bytes or not
  pub unread_told : (first disk : D) → ((m : ℕ) (image : List ℕ) → may_leave disk m image → IsSome (seen disk)) → is_some (seen disk) ≡ is_some (seen first)
      → ((x : List ℕ) → seen first ≡ Some x → ¬ HasOpen e bank x)
      → ((x : List ℕ) → seen first ≡ Some x → LeavesOnly calls may_leave first disk (IsTorn (place_of e bank) (bank_size e) x))
      → LeavesUnread calls may_leave e bank disk
  unread_told first disk law told shut run c left =
      let now = some_of (seen disk) (law _ c left) in
      let start = told_back (seen first) (seen disk) now.0 told now.1 in
      unread_torn start.0 disk (shut start.0 start.1) (run start.0 start.1).now c left

  -- a page that is read, and then maybe written
  pub page_moment : (at k : ℕ) (start : List ℕ) (old read new : D) → at + k ≤ bank_size e → LeavesTorn calls may_leave (place_of e bank) (bank_size e) start old
      → KeepsCrashImages calls may_leave old read → TearsAtMost calls may_leave (place_of e bank + at) k read new
      → LeavesOnly calls may_leave old new (IsTorn (place_of e bank) (bank_size e) start)
  page_moment at k start old read new within torn reads writes =
      let p = place_of e bank in
      let n = bank_size e in
      let P : List ℕ → Type 0 = IsTorn p n start in
      let run = goes_on_same calls may_leave old old read P (started calls may_leave old P torn) reads.at_most in
      let once = torn-after_same calls may_leave p n start old read torn reads.at_most in
      goes_on_write calls may_leave p n (p + at) k start old read new P run once (omega arith) (omega arith) writes (λ _ t. t)

-- one page more
pub page_next : (seen now first : Option (List ℕ)) (image : List ℕ) (p at k : ℕ) → at + k ≤ length image → ((x : List ℕ) → first ≡ Some x → p ≤ length x)
    → now ≡ option_map (overwritten p (take at image)) first → seen ≡ option_map (overwritten (p + at) (slice_range image at (at + k))) now
    → seen ≡ option_map (overwritten p (take (at + k) image)) first
page_next seen now None image p at k within begins before here = here ∙ ap (option_map (overwritten (p + at) (slice_range image at (at + k)))) before
page_next seen now (Some old) image p at k within begins before here =
    let len : at + k - at ≡ k = omega arith in
    let front : length (take at image) ≡ at = omega (arith, length-take at image) in
    here ∙ ap (option_map (overwritten (p + at) (slice_range image at (at + k)))) before
    ∙ ap Some (overwritten-next p at (take at image) (slice_range image at (at + k)) old (begins old refl) front
    ∙ ap (λ (xs : List ℕ). overwritten p xs old) (ap (λ j. take at image ++ take j (drop at image)) len ∙ sym (take-add at k image)))

-- all pages
pub whole_pages : (now first : Option (List ℕ)) (image : List ℕ) (p at n : ℕ) → length image ≡ n → n ≤ at → now ≡ option_map (overwritten p (take at image)) first → now ≡ option_map (overwritten p image) first
whole_pages now first image p at n long all written = written ∙ ap (λ (xs : List ℕ). option_map (overwritten p xs) first) (take_all at image (omega arith))

-- the bytes of a page
pub page_long : (image : List ℕ) (at k : ℕ) → at + k ≤ length image → length (slice_range image at (at + k)) ≡ k
page_long image at k within = omega (arith, length-take (at + k - at) (drop at image), length-drop at image)
