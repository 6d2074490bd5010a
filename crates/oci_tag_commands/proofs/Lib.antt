mod Items
mod Tagging
