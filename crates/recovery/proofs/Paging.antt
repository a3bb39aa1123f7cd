-- A bank that is read page after page.
use Rattle.std.proofs.Common.{◌≡◌, ℕ, ◌+◌, ◌-◌, ◌≤◌, List, ◌++◌, length, take, drop, Option, Some, None, refl, sym, ◌∙◌, ap, subst, arith}
use Rattle.store_spec.proofs.Common.{A, B, Ballot, Bank, Election, IfSome, IsBallotSet, IsElection, IsImageOf, IsWithinLimit, bank_of, bank_size, image_of, length-append, length-drop, length-take, medium_size, slice_range, take-add, take-append-drop, take_all}
use Rattle.body_store.specs.Contents.{Contents, IsStored}
use Rattle.image_builder.specs.Feeding.{Feeding, IsRefusedPiece}
use Rattle.image_builder.specs.Reading.{IsRefusedBank}
use Rattle.image_builder.specs.declared.read.ImageFault.{ImageFault}
use Rattle.image_builder.specs.declared.read.ImageFault.TheVariants.{OtherElection, Damaged, Memory}
use Rattle.recovery.proofs.Differences.{differs_behind, differs_within}
use Rattle.recovery.specs.Canonical.{IsReadAs, IsReadFrom}
use Rattle.recovery.specs.Differing.{DiffersFirstAt, IsFirstDifference}
use Rattle.recovery.specs.Faults.{recover_fault}
use Rattle.recovery.specs.Refused.{IsRefusedMedium}
use Rattle.recovery.specs.declared.fault.RecoverFault.TheVariants as faults

-- one page more of a bank
pub pages_more : (bank fed page : List ℕ) (at k : ℕ) → fed ≡ take at bank → page ≡ slice_range bank at (at + k) → fed ++ page ≡ take (at + k) bank
pages_more bank fed page at k before here =
    let much : at + k - at ≡ k = omega arith in
    ap (λ (xs : List ℕ). xs ++ page) before ∙ ap (λ (xs : List ℕ). take at bank ++ xs) (here ∙ ap (λ j. take j (drop at bank)) much) ∙ sym (take-add at k bank)

-- a page that is refused is one of a bank that is
pub refused_page : (e : Election) (bank fed page : List ℕ) (at k : ℕ) (why : ImageFault) → fed ≡ take at bank → page ≡ slice_range bank at (at + k) → IsRefusedPiece e fed page why → IsRefusedBank e bank why
refused_page e bank fed page at k why before here refused =
    let all : fed ++ page ++ drop (at + k) bank ≡ bank = ap (λ (xs : List ℕ). xs ++ drop (at + k) bank) (pages_more bank fed page at k before here) ∙ take-append-drop (at + k) bank in
    subst (λ (xs : List ℕ). IsRefusedBank e xs why) all (refused.each_bank (drop (at + k) bank))

-- and that of a medium whose bank it is
pub refused_medium : (e : Election) (bytes : List ℕ) (bank : Bank) (why : ImageFault) → IsReadFrom e bytes bank → IsRefusedBank e (bank_of e bank bytes) why → IsRefusedMedium e bytes (recover_fault why)
refused_medium e bytes bank (OtherElection header) from refused = record { size = from.size; bank = bank; chosen = from.chosen; refused = refused }
refused_medium e bytes bank (Damaged cell) from refused = record { size = from.size; bank = bank; chosen = from.chosen; refused = refused }
refused_medium e bytes bank Memory from refused = (bank, from)

-- a bank of a medium
pub length-bank_of : (e : Election) (bank : Bank) (bytes : List ℕ) → length bytes ≡ medium_size e → length (bank_of e bank bytes) ≡ bank_size e
length-bank_of e A bytes long = omega (arith, length-take (0 + bank_size e - 0) (drop 0 bytes), length-drop 0 bytes)
length-bank_of e B bytes long = omega (arith, length-take (bank_size e + bank_size e - bank_size e) (drop (bank_size e) bytes), length-drop (bank_size e) bytes)

-- all pages of it
pub pages_all : (e : Election) (bank : Bank) (bytes fed : List ℕ) (at : ℕ) → length bytes ≡ medium_size e → bank_size e ≤ at → fed ≡ take at (bank_of e bank bytes) → fed ≡ bank_of e bank bytes
pages_all e bank bytes fed at long far is = is ∙ take_all at (bank_of e bank bytes) (omega (arith, length-bank_of e bank bytes long))

-- a reader that was fed the first bytes of a bank, where they are told
pub record IsFedFrom (e : Election) (bank : Bank) (seen : Option (List ℕ)) (at : ℕ) (reader : Feeding) : Type 0 where
  pub own : reader.election ≡ e
  pub long : length reader.fed ≡ at
  pub fed : IfSome seen (λ bytes. reader.fed ≡ take at (bank_of e bank bytes))

-- one page more
fed_told : (seen : Option (List ℕ)) (e : Election) (bank : Bank) (fed page : List ℕ) (at k : ℕ) → IfSome seen (λ bytes. fed ≡ take at (bank_of e bank bytes))
    → IfSome seen (λ bytes. page ≡ slice_range (bank_of e bank bytes) at (at + k)) → IfSome seen (λ bytes. fed ++ page ≡ take (at + k) (bank_of e bank bytes))
fed_told None e bank fed page at k before here = tt
fed_told (Some bytes) e bank fed page at k before here = pages_more (bank_of e bank bytes) fed page at k before here

pub fed_more : (e : Election) (bank : Bank) (first now : Option (List ℕ)) (at k : ℕ) (reader next : Feeding) (page : List ℕ) → now ≡ first → length page ≡ k → IsFedFrom e bank first at reader
    → IfSome now (λ bytes. page ≡ slice_range (bank_of e bank bytes) at (at + k)) → next ≡ record { election = e; fed = reader.fed ++ page } → IsFedFrom e bank first (at + k) next
fed_more e bank first now at k reader next page same long before here is =
    let page_there = subst (λ (o : Option (List ℕ)). IfSome o (λ bytes. page ≡ slice_range (bank_of e bank bytes) at (at + k))) same here in
    subst (λ (f : Feeding). IsFedFrom e bank first (at + k) f) (sym is)
    (record { own = refl; long = omega (arith, before.long, long, length-append reader.fed page); fed = fed_told first e bank reader.fed page at k before.fed page_there })

-- a page that is refused
pub refused_told : (e : Election) (bank : Bank) (first now : Option (List ℕ)) (at k : ℕ) (reader : Feeding) (page : List ℕ) (why : ImageFault) → now ≡ first → IsFedFrom e bank first at reader
    → ((x : List ℕ) → first ≡ Some x → IsReadFrom e x bank) → IfSome now (λ bytes. page ≡ slice_range (bank_of e bank bytes) at (at + k)) → IsRefusedPiece e reader.fed page why
    → IfSome first (λ bytes. IsRefusedMedium e bytes (recover_fault why))
refused_told e bank None now at k reader page why same before from here refused = tt
refused_told e bank (Some bytes) now at k reader page why same before from here refused =
    let page_there = subst (λ (o : Option (List ℕ)). IfSome o (λ bytes. page ≡ slice_range (bank_of e bank bytes) at (at + k))) same here in
    refused_medium e bytes bank why (from bytes refl) (refused_page e (bank_of e bank bytes) reader.fed page at k why before.fed page_there refused)

-- want of memory, where a bank is read
pub memory_told : (e : Election) (bank : Bank) (first : Option (List ℕ)) → ((x : List ℕ) → first ≡ Some x → IsReadFrom e x bank) → IfSome first (λ bytes. IsRefusedMedium e bytes faults.Memory)
memory_told e bank None from = tt
memory_told e bank (Some bytes) from = (bank, from bytes refl)

-- the whole bank
pub all_told : (e : Election) (bank : Bank) (first : Option (List ℕ)) (at : ℕ) (made : List ℕ) → bank_size e ≤ at → length made ≡ bank_size e → IsFedFrom e bank first at (record { election = e; fed = take at made })
    → ((x : List ℕ) → first ≡ Some x → IsReadFrom e x bank) → IfSome first (λ bytes. made ≡ bank_of e bank bytes)
all_told e bank None at made far whole fed from = tt
all_told e bank (Some bytes) at made far whole fed from = sym (take_all at made (omega (arith, whole, far))) ∙ pages_all e bank bytes (take at made) at (from bytes refl).size far fed.fed

pub read_told : (e : Election) (bank : Bank) (first : Option (List ℕ)) (made : List ℕ) (set : List Ballot) → IfSome first (λ bytes. made ≡ bank_of e bank bytes)
    → ((x : List ℕ) → first ≡ Some x → IsReadFrom e x bank) → IsImageOf e made set → IfSome first (λ bytes. IsReadAs e bytes bank set)
read_told e bank None made set read from image = tt
read_told e bank (Some bytes) made set read from image =
    record { from = from bytes refl; image = subst (λ (xs : List ℕ). IsImageOf e xs set) read image }

-- ---- pages of two banks

pub same_more : (xs ys : List ℕ) (at k : ℕ) → take at xs ≡ take at ys → slice_range xs at (at + k) ≡ slice_range ys at (at + k) → take (at + k) xs ≡ take (at + k) ys
same_more xs ys at k before here = sym (pages_more xs (take at xs) (slice_range xs at (at + k)) at k refl refl) ∙ pages_more ys (take at xs) (slice_range xs at (at + k)) at k before here

pub same_all : (xs ys : List ℕ) (at : ℕ) → length xs ≤ at → length ys ≤ at → take at xs ≡ take at ys → xs ≡ ys
same_all xs ys at far near same = sym (take_all at xs far) ∙ same ∙ take_all at ys near

pub stored_election : (e : Election) (store : Contents) → e ≡ store.election → IsStored store → IsElection e
stored_election e store own stored = subst IsElection (sym own) stored.election

-- what a store shows is the image of its set
pub shown_image : (e : Election) (store : Contents) (image : List ℕ) → store.election ≡ e → IsStored store → image ≡ image_of store.election store.ballots → IsImageOf e image store.ballots
shown_image e store image same stored is = record {
  set = subst (λ (e : Election). IsBallotSet e store.ballots) same stored.set;
  within_limit = subst (λ (e : Election). IsWithinLimit e store.ballots) same stored.within_limit;
  bytes = is ∙ ap (λ e. image_of e store.ballots) same;
}

-- pages before it agree, and a page differs
pub differs_in_page : (xs ys : List ℕ) (at k place : ℕ) → take at xs ≡ take at ys → DiffersFirstAt place (slice_range xs at (at + k)) (slice_range ys at (at + k)) → DiffersFirstAt (at + place) xs ys
differs_in_page xs ys at k place same differs = differs_behind xs ys at place same (differs_within (drop at xs) (drop at ys) (at + k - at) place differs)

module _ (e : Election) (bank : Bank) (image : List ℕ) where
  -- a page differs
  pub differs_told : (first now : Option (List ℕ)) (at k place : ℕ) (differs : Option ℕ) → differs ≡ Some place → now ≡ first
      → IfSome first (λ bytes. take at (bank_of e bank bytes) ≡ take at image)
      → IfSome now (λ bytes. IsFirstDifference (slice_range (bank_of e bank bytes) at (at + k)) (slice_range image at (at + k)) differs)
      → IfSome first (λ bytes. DiffersFirstAt (at + place) (bank_of e bank bytes) image)
  differs_told None now at k place differs is still before page = tt
  differs_told (Some bytes) now at k place differs is still before page =
      let there = subst (λ (o : Option (List ℕ)). IfSome o (λ bytes. IsFirstDifference (slice_range (bank_of e bank bytes) at (at + k)) (slice_range image at (at + k)) differs)) still page in
      let here = subst (λ (o : Option ℕ). IsFirstDifference (slice_range (bank_of e bank bytes) at (at + k)) (slice_range image at (at + k)) o) is there in
      differs_in_page (bank_of e bank bytes) image at k place before here

  -- it agrees
  pub agrees_told : (first now : Option (List ℕ)) (at k : ℕ) (differs : Option ℕ) → differs ≡ None → now ≡ first
      → IfSome first (λ bytes. take at (bank_of e bank bytes) ≡ take at image)
      → IfSome now (λ bytes. IsFirstDifference (slice_range (bank_of e bank bytes) at (at + k)) (slice_range image at (at + k)) differs)
      → IfSome first (λ bytes. take (at + k) (bank_of e bank bytes) ≡ take (at + k) image)
  agrees_told None now at k differs is still before page = tt
  agrees_told (Some bytes) now at k differs is still before page =
      let there = subst (λ (o : Option (List ℕ)). IfSome o (λ bytes. IsFirstDifference (slice_range (bank_of e bank bytes) at (at + k)) (slice_range image at (at + k)) differs)) still page in
      let here = subst (λ (o : Option ℕ). IsFirstDifference (slice_range (bank_of e bank bytes) at (at + k)) (slice_range image at (at + k)) o) is there in
      same_more (bank_of e bank bytes) image at k before here

  -- all pages agree
  pub whole_told : (first : Option (List ℕ)) (at : ℕ) → ((x : List ℕ) → first ≡ Some x → length x ≡ medium_size e) → length image ≡ bank_size e → bank_size e ≤ at
      → IfSome first (λ bytes. take at (bank_of e bank bytes) ≡ take at image) → IfSome first (λ bytes. bank_of e bank bytes ≡ image)
  whole_told None at long fits far before = tt
  whole_told (Some bytes) at long fits far before = same_all (bank_of e bank bytes) image at (omega (arith, length-bank_of e bank bytes (long bytes refl))) (omega arith) before
