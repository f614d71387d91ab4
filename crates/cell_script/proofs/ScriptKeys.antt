-- Keys ` name=` of fields by their names, taken apart.
use Rattle.cell_script.proofs.Common.{◌≡◌, ℕ, ◌+◌, Bool, true, false, List, [], ◌∷◌, ◌++◌, length, drop, codes, refl, sym, ap, ◌∙◌, arith}
use Rattle.cell_script.proofs.Common.{and_parts, begins_with, get_or, key_of, leb-true, length-append, nat_le, suc, zero, ◌≤◌, nat_lt, ◌&&◌}
use Rattle.cell_script.proofs.Common.{all_below, IsAscii, nat_eq}
use Rattle.std.specs.List.{list_all}
use Rattle.std.proofs.lemmas.Str.Ascii.{IsAscii-from_all}
use Rattle.sync_message.specs.Rows.{sync_widths}
use Rattle.std.proofs.lemmas.List as lists

both : (a b c : Bool) → (a && (b && c)) ≡ ((a && b) && c)
both true b c = refl
both false b c = refl

-- a text begins with two texts where it begins with the first, and what is after it with the other
begins_more : (text a b : List ℕ) →
    begins_with text (a ++ b) ≡ (begins_with text a && begins_with (drop (length a) text) b)
begins_more text [] b = refl
begins_more [] (x ∷ a) b = refl
begins_more (t ∷ text) (x ∷ a) b =
    ap (λ (r : Bool). nat_eq t x && r) (begins_more text a b)
    ∙ both (nat_eq t x) (begins_with text a) (begins_with (drop (length a) text) b)

pub key_told : (text name : List ℕ) → begins_with text (key_of name)
    ≡ ((begins_with text (codes " ") && begins_with (drop 1 text) name)
    && begins_with (drop (length name) (drop 1 text)) (codes "="))
key_told text name =
    begins_more text (codes " " ++ name) (codes "=")
    ∙ ap (λ (r : Bool). r && begins_with (drop (length (codes " " ++ name)) text) (codes "="))
    (begins_more text (codes " ") name)
    ∙ ap (λ (r : List ℕ). (begins_with text (codes " ") && begins_with (drop 1 text) name) && begins_with r (codes "="))
    (key_front text name)
  where
    key_front : (text name : List ℕ) → drop (length (codes " " ++ name)) text ≡ drop (length name) (drop 1 text)
    key_front [] name = sym (lists.drop_all (length name) [] (omega arith))
    key_front (t ∷ text) name = refl

after_both : (a b : ℕ) (text : List ℕ) → drop a (drop b text) ≡ drop (b + a) text
after_both a b text = lists.drop-drop a b text ∙ ap (λ (k : ℕ). drop k text) (omega arith)

pub key_after : (text name : List ℕ) → drop 1 (drop (length name) (drop 1 text)) ≡ drop (length (key_of name)) text
key_after text name =
    let long : 1 + (length name + 1) ≡ length (key_of name) =
    omega (arith, length-append (codes " " ++ name) (codes "=")) in
    after_both 1 (length name) (drop 1 text) ∙ after_both (length name + 1) 1 text
    ∙ ap (λ (k : ℕ). drop k text) long

-- each field of the sync message has at most 63 bits
narrow_at : (widths : List ℕ) → list_all (λ (w : ℕ). nat_le w 63) widths ≡ true → (k : ℕ) → get_or widths k 0 ≤ 63
narrow_at [] narrow k = omega arith
narrow_at (w ∷ widths) narrow zero = leb-true w 63 (and_parts _ _ narrow).0
narrow_at (w ∷ widths) narrow (suc k) = narrow_at widths (and_parts _ _ narrow).1 k

pub narrow_sync_width : (place width : ℕ) → width ≡ get_or sync_widths place 0 → width ≤ 63
narrow_sync_width place width is = omega (arith, is, narrow_at sync_widths refl place)

-- a key of bytes below 128
pub ascii_key : (key : List ℕ) → list_all (λ byte. nat_lt byte 128) key ≡ true → IsAscii key
ascii_key key all = IsAscii-from_all key (all_below key all)
