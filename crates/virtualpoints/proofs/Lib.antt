mod Rings
