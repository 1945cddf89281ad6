-- The promises of specs/Promises.antt: what has been seen tells the octets that were, but for a bad line's.
use Rattle.std.proofs.Common.{◌≡◌, ℕ, zero, suc, ◌+◌, ◌*◌, ◌%◌, ◌<◌, ◌≤◌, true, eqb, leb, List, [], ◌∷◌, ◌++◌, length, replicate, sym, refl, ap, ◌∙◌, append_assoc, append-nil, arith, ne_eqb, eqb-true, leb-true, Option, Some, None}
use Rattle.std.specs.Option.{option_map_or}
use Rattle.std.proofs.lemmas.Option.{none-some, same_Some}
use Rattle.octets.proofs.Laws.{pick-by, both_left, both_right}
use Rattle.line.specs.declared.Seen.{Seen}
use Rattle.line.specs.declared.Seen.TheVariants as seen
use Rattle.line.specs.declared.LineFound.{LineFound}
use Rattle.line.specs.declared.LineFound.TheVariants as found
use Rattle.line.specs.declared.Line.{Line}
use Rattle.line.specs.Line.{letter_t, letter_b, tab, line_feed, within, hex_of, seen_of, whole_of, line_numbered, next_number, line_octet, end_in, end_of}
use Rattle.line.specs.Promises.{Hex, digit, capital, small, IsSecond, IsOctet, IsBad, Is, second, octet, bad, LineIsOne, NoFeed, founds, line_after, LineRead, lines_found, found_in, with_feeds, NoFeeds, last_line, Are, none, more, InputRead}
use Rattle.line.proofs.Laws.{inside, above}

-- Digits

some-same : {v w : ℕ} → v ≡ w → Some v ≡ Some w
some-same e = rw e

hex-of : {c v : ℕ} → Hex c v → hex_of c ≡ Some v
unfolding hex_of
hex-of {c} {v} (digit h e) = rw (inside 0x30 0x39 c (omega arith) (omega arith)) (some-same (omega arith))
hex-of {c} {v} (capital g h e) =
    rw (above 0x30 0x39 c (omega arith) (omega arith), inside 0x41 0x46 c (omega arith) (omega arith)) (some-same (omega arith))
hex-of {c} {v} (small g h e) =
    rw (above 0x30 0x39 c (omega arith) (omega arith), above 0x41 0x46 c (omega arith) (omega arith), inside 0x61 0x66 c (omega arith) (omega arith))
    (some-same (omega arith))

hex-small : {c v : ℕ} → Hex c v → v < 16
hex-small (digit h e) = omega arith
hex-small (capital g h e) = h
hex-small (small g h e) = h

in-range : (a z o : ℕ) → within a z o ≡ true → (a ≤ o) × (o ≤ z)
in-range a z o h = (leb-true a o (both_left (leb a o) (leb o z) h), leb-true o z (both_right (leb a o) (leb o z) h))

-- what has a value is a digit
hex-is : (c v : ℕ) → hex_of c ≡ Some v → Hex c v
unfolding hex_of
hex-is c v =
    pick-by (λ (o : Option ℕ). o ≡ Some v → Hex c v) (within 0x30 0x39 c)
    (λ h e. let r = in-range 0x30 0x39 c h in let d = same_Some _ _ e in digit (omega (arith, d)) (omega (arith, d)))
    (λ _. pick-by (λ (o : Option ℕ). o ≡ Some v → Hex c v) (within 0x41 0x46 c)
    (λ h e. let r = in-range 0x41 0x46 c h in let d = same_Some _ _ e in capital (omega (arith, d)) (omega (arith, d)) (omega (arith, d)))
    (λ _. pick-by (λ (o : Option ℕ). o ≡ Some v → Hex c v) (within 0x61 0x66 c)
    (λ h e. let r = in-range 0x61 0x66 c h in let d = same_Some _ _ e in small (omega (arith, d)) (omega (arith, d)) (omega (arith, d)))
    (λ _ e. absurd (none-some v e))))

map-or-by : {A B : Type 0} (P : B → Type 0) (f : A → B) (o : Option A) {b : B} → ((x : A) → o ≡ Some x → P (f x)) → P b → P (option_map_or f o b)
map-or-by P f None g h = h
map-or-by P f (Some x) g h = g x refl

-- What has been seen

-- the octets that lead there
pub record HighSeen (xs : List ℕ) (h : ℕ) : Type 0 where
  pub c : ℕ
  pub octets : xs ≡ letter_b ∷ tab ∷ c ∷ []
  pub high : Hex c h

abbrev Led : Seen → List ℕ → Type 0
Led seen.Nothing xs = xs ≡ []
Led seen.Second xs = IsSecond xs
Led seen.Begun xs = xs ≡ letter_b ∷ []
Led seen.Tab xs = xs ≡ letter_b ∷ tab ∷ []
Led (seen.High h) xs = HighSeen xs h
Led (seen.Octet b) xs = IsOctet xs b
Led seen.Bad xs = Unit

led_on : (s : Seen) (xs : List ℕ) (o : ℕ) → Led s xs → Led (seen_of s o) (xs ++ (o ∷ []))
led_on seen.Nothing xs o e =
    pick-by (λ (s : Seen). Led s (xs ++ (o ∷ []))) (eqb o letter_t) (λ t. rw (e, eqb-true o letter_t t))
    (λ _. pick-by (λ (s : Seen). Led s (xs ++ (o ∷ []))) (eqb o letter_b) (λ t. rw (e, eqb-true o letter_b t)) (λ _. tt))
led_on seen.Second xs o e = tt
led_on seen.Begun xs o e =
    pick-by (λ (s : Seen). Led s (xs ++ (o ∷ []))) (eqb o tab) (λ t. rw (e, eqb-true o tab t)) (λ _. tt)
led_on seen.Tab xs o e =
    map-or-by (λ (s : Seen). Led s (xs ++ (o ∷ []))) _ (hex_of o) (λ w k. record { c = o; octets = rw e; high = hex-is o w k }) tt
led_on (seen.High h) xs o e =
    map-or-by (λ (s : Seen). Led s (xs ++ (o ∷ []))) _ (hex_of o)
    (λ w t. let k = hex-is o w t in
    record {
      c = e.c;
      d = o;
      v = h;
      w = w;
      octets = rw e.octets;
      high = e.high;
      low = k;
      value = omega (arith, hex-small e.high, hex-small k);
    })
    tt
led_on (seen.Octet b) xs o e = tt
led_on seen.Bad xs o e = tt

abbrev seen_all : Seen → List ℕ → Seen
seen_all s [] = s
seen_all s (o ∷ os) = seen_all (seen_of s o) os

led : (s : Seen) (xs ys : List ℕ) → Led s xs → Led (seen_all s ys) (xs ++ ys)
led s xs [] e = rw (append-nil xs) e
led s xs (y ∷ ys) e = rw (append_assoc xs (y ∷ []) ys) at (led (seen_of s y) (xs ++ (y ∷ [])) ys (led_on s xs y e))

-- and where such octets lead
to-second : (xs : List ℕ) → IsSecond xs → seen_all seen.Nothing xs ≡ seen.Second
to-second xs e = rw e

to-octet : (xs : List ℕ) (b : ℕ) → IsOctet xs b → seen_all seen.Nothing xs ≡ seen.Octet b
to-octet xs b e =
    let h = hex-small e.high in
    let k = hex-small e.low in
    let m : b ≡ e.v % 16 * 16 + e.w % 16 = omega (arith, e.value) in
    rw (e.octets, hex-of e.high, hex-of e.low, m)

-- a line that is found bad is neither
is-bad : (n : ℕ) (xs : List ℕ) → whole_of (seen_all seen.Nothing xs) n ≡ found.Bad n → IsBad xs
is-bad n xs e =
    record {
      second = λ i. let k = ap (λ (s : Seen). whole_of s n) (to-second xs i) in let z : ◌≡◌ {A = ℕ} 0 1 = cc in omega arith;
      octet = λ b i. let k = ap (λ (s : Seen). whole_of s n) (to-octet xs b i) in let z : ◌≡◌ {A = ℕ} 0 1 = cc in omega arith;
    }

is-told : (n : ℕ) (xs : List ℕ) (s : Seen) → seen_all seen.Nothing xs ≡ s → Led s xs → Is n xs (whole_of s n)
is-told n xs seen.Nothing e l = bad (is-bad n xs (rw e))
is-told n xs seen.Second e l = second l
is-told n xs seen.Begun e l = bad (is-bad n xs (rw e))
is-told n xs seen.Tab e l = bad (is-bad n xs (rw e))
is-told n xs (seen.High h) e l = bad (is-bad n xs (rw e))
is-told n xs (seen.Octet b) e l = octet l
is-told n xs seen.Bad e l = bad (is-bad n xs (rw e))

is_whole : (n : ℕ) (xs : List ℕ) → Is n xs (whole_of (seen_all seen.Nothing xs) n)
is_whole n xs = is-told n xs (seen_all seen.Nothing xs) refl (led seen.Nothing [] xs refl)

-- Octet by octet

on-more : (s : Seen) (n o : ℕ) → (o ≡ line_feed → ⊥) → line_octet (record { seen = s; number = n }) o ≡ record { line = record { seen = seen_of s o; number = n }; found = None }
unfolding line_octet
on-more s n o h = rw (ne_eqb o line_feed h)

after-all : (s : Seen) (n : ℕ) (xs : List ℕ) → NoFeed xs → line_after (record { seen = s; number = n }) xs ≡ record { seen = seen_all s xs; number = n }
unfolding line_after
after-all s n [] h = refl
after-all s n (x ∷ xs) h = rw (on-more s n x h.0) (after-all (seen_of s x) n xs h.1)

founds-more : (s : Seen) (n : ℕ) (xs : List ℕ) → NoFeed xs → founds (record { seen = s; number = n }) xs ≡ replicate (length xs) None
unfolding founds
founds-more s n [] h = refl
founds-more s n (x ∷ xs) h = rw (on-more s n x h.0) (ap {B = List (Option LineFound)} (λ fs. None ∷ fs) (founds-more (seen_of s x) n xs h.1))

pub line_read : LineRead
unfolding line_octet
line_read n xs h =
    let e = after-all seen.Nothing n xs h in
    record { before = founds-more seen.Nothing n xs h; line = whole_of (seen_all seen.Nothing xs) n; found = rw e; is = is_whole n xs; next = rw e }

pub line-is-one : LineIsOne
line-is-one n xs f g (second p) (second q) = refl
line-is-one n xs f g (second p) (octet q) = absurd (let e = sym (to-second xs p) ∙ to-octet xs _ q in let z : ◌≡◌ {A = ℕ} 0 1 = cc in omega arith)
line-is-one n xs f g (second p) (bad q) = absurd (q.second p)
line-is-one n xs f g (octet p) (second q) = absurd (let e = sym (to-second xs q) ∙ to-octet xs _ p in let z : ◌≡◌ {A = ℕ} 0 1 = cc in omega arith)
line-is-one n xs f g (octet p) (octet q) = let e = sym (to-octet xs _ p) ∙ to-octet xs _ q in cc
line-is-one n xs f g (octet p) (bad q) = absurd (q.octet _ p)
line-is-one n xs f g (bad p) (second q) = absurd (p.second q)
line-is-one n xs f g (bad p) (octet q) = absurd (p.octet _ q)
line-is-one n xs f g (bad p) (bad q) = refl

-- A whole input

founds-append : (l : Line) (xs ys : List ℕ) → founds l (xs ++ ys) ≡ founds l xs ++ founds (line_after l xs) ys
unfolding founds line_after
founds-append l [] ys = refl
founds-append l (x ∷ xs) ys = ap {B = List (Option LineFound)} (λ fs. (line_octet l x).found ∷ fs) (founds-append (line_octet l x).line xs ys)

after-append : (l : Line) (xs ys : List ℕ) → line_after l (xs ++ ys) ≡ line_after (line_after l xs) ys
unfolding line_after
after-append l [] ys = refl
after-append l (x ∷ xs) ys = after-append (line_octet l x).line xs ys

ended-more : (k : ℕ) (fs : List (Option LineFound)) → lines_found (replicate k None ++ fs) ≡ lines_found fs
ended-more zero fs = refl
ended-more (suc k) fs = ended-more k fs

line_first : (n : ℕ) (xs os : List ℕ) → NoFeed xs → found_in (line_numbered n) (xs ++ (line_feed ∷ os)) ≡ whole_of (seen_all seen.Nothing xs) n ∷ found_in (line_numbered (next_number n)) os
unfolding found_in founds line_after line_octet
line_first n xs os h =
    let f = whole_of (seen_all seen.Nothing xs) n in
    let fs = founds (line_numbered (next_number n)) os ++ (end_of (line_after (line_numbered (next_number n)) os) ∷ []) in
    rw (founds-append (line_numbered n) xs (line_feed ∷ os), after-append (line_numbered n) xs (line_feed ∷ os), after-all seen.Nothing n xs h, founds-more seen.Nothing n xs h, append_assoc)
    (ended-more (length xs) (Some f ∷ fs))

-- where something was seen, the end of the input finds what a line feed would
end_whole : (n : ℕ) (s : Seen) (x : ℕ) (xs : List ℕ) → Led s (x ∷ xs) → end_in s n ≡ Some (whole_of s n)
end_whole n seen.Nothing x xs e = absurd (let z : ◌≡◌ {A = ℕ} 0 1 = cc in omega arith)
end_whole n seen.Second x xs e = refl
end_whole n seen.Begun x xs e = refl
end_whole n seen.Tab x xs e = refl
end_whole n (seen.High h) x xs e = refl
end_whole n (seen.Octet b) x xs e = refl
end_whole n seen.Bad x xs e = refl

last_found : (n : ℕ) (xs : List ℕ) → NoFeed xs → found_in (line_numbered n) xs ≡ lines_found (end_in (seen_all seen.Nothing xs) n ∷ [])
unfolding found_in end_of
last_found n xs h =
    rw (after-all seen.Nothing n xs h, founds-more seen.Nothing n xs h) (ended-more (length xs) (end_in (seen_all seen.Nothing xs) n ∷ []))

last-read : (n : ℕ) (xs : List ℕ) → NoFeed xs → Are n (last_line xs) (found_in (line_numbered n) xs)
last-read n [] h = rw (last_found n [] h) none
last-read n (x ∷ xs) h =
    let s = seen_all seen.Nothing (x ∷ xs) in
    let i = is_whole n (x ∷ xs) in
    let e = end_whole n s x xs (led seen.Nothing [] (x ∷ xs) refl) in
    rw (last_found n (x ∷ xs) h, e) (more i none)

read-from : (n : ℕ) (ls : List (List ℕ)) (last : List ℕ) → NoFeeds ls → NoFeed last → Are n (ls ++ last_line last) (found_in (line_numbered n) (with_feeds ls ++ last))
read-from n [] last h k = last-read n last k
read-from n (xs ∷ ls) last h k =
    rw (append_assoc xs (line_feed ∷ with_feeds ls) last, line_first n xs (with_feeds ls ++ last) h.0)
    (more (is_whole n xs) (read-from (next_number n) ls last h.1 k))

pub input-read : InputRead
input-read ls last h k = read-from 1 ls last h k
