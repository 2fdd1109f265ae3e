use Rattle.std.proofs.Common.{◌≡◌, ◌++◌, ◌∙◌, length, ap}
use Rattle.db_pages.specs.Image.{first_page}
use Rattle.db_pages.proofs.Appends.{from_nothing, two_behind}
use Rattle.db_pages.proofs.first_page.first_page.Goals as goal

pub returns : goal.returns
unfolding first_page
returns c =
    let s11 = c.in_ok-push_zeros-3.ensures.ok in
    let s10 = two_behind c.append-8.new.into.items _ _ _ _ (c.in_ok-append-9.ensures.ok ∙ ap (λ xs. c.append-8.new.into.items ++ xs) c.four_bytes-3.ensures) s11 in
    let s9 = two_behind c.append-7.new.into.items _ _ _ _ c.in_ok-append-8.ensures.ok s10 in
    let s8 = two_behind c.append-6.new.into.items _ _ _ _ (c.in_ok-append-7.ensures.ok ∙ ap (λ xs. c.append-6.new.into.items ++ xs) c.four_bytes-2.ensures) s9 in
    let s7 = two_behind c.push_zeros-2.new.into.items _ _ _ _ c.in_ok-append-6.ensures.ok s8 in
    let s6 = two_behind c.append-5.new.into.items _ _ _ _ c.in_ok-push_zeros-2.ensures.ok s7 in
    let s5 = two_behind c.push_zeros.new.into.items _ _ _ _ c.in_ok-append-5.ensures.ok s6 in
    let s4 = two_behind c.append-4.new.into.items _ _ _ _ c.in_ok-push_zeros.ensures.ok s5 in
    let s3 = two_behind c.append-3.new.into.items _ _ _ _ c.in_ok-append-4.ensures.ok s4 in
    let s2 = two_behind c.append-2.new.into.items _ _ _ _ (c.in_ok-append-3.ensures.ok ∙ ap (λ xs. c.append-2.new.into.items ++ xs) c.four_bytes.ensures) s3 in
    let s1 = two_behind c.append.new.into.items _ _ _ _ c.in_ok-append-2.ensures.ok s2 in
    let is : c.push_zeros-3.new.into.items ≡ first_page c.args.pages c.args.root =
    from_nothing c.new-page.result.items _ _ _ _ c.new-page.ensures.items c.in_ok-append.ensures.ok s1 in
    record { value = is; size = ap length is }
